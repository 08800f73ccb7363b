use Rattle.std.proofs.lemmas.Result.{IfOk-weaker}
use Rattle.rr_sets.proofs.as_sets.AsSetsGraph.successors.Goals as goal

pub returns : goal.returns
returns g c =
    IfOk-weaker c.names_listed.result _ _ (λ names are name shown. are _ name shown.found)
    c.names_listed.ensures
