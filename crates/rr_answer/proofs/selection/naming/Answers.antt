use Rattle.std.proofs.Common.{◌∙◌, ap}
use Rattle.std.specs.Prelude.{filter}
use Rattle.std.proofs.lemmas.Result.{IfOk-weaker}
use Rattle.rr_sets.specs.Lists.{lent}
use Rattle.rr_object.specs.Objects.{object_names}
use Rattle.rr_answer.proofs.Lists.{filtered}
use Rattle.rr_answer.proofs.selection.naming.Goals as goal

pub returns : goal.returns
returns g c =
    IfOk-weaker c.those_naming.result _ _
    (λ found is. ap lent is ∙ filtered (object_names c.args.name.now) c.deref.result.now
    ∙ ap (filter (object_names c.args.name.now)) (ap lent c.deref.ensures.value
    ∙ c.in_ok-objects.ensures.all))
    c.those_naming.ensures
