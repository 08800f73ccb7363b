use Rattle.std.proofs.lemmas.Result.{IfOk-weaker}
use Rattle.rr_sets.proofs.route_sets.RouteSetsLabelled.edges.Goals as goal

pub returns : goal.returns
returns g c =
    IfOk-weaker c.references_of.result _ _
    (λ edges lists to label. lists.all (record { to = to; label = label }))
    c.references_of.ensures
