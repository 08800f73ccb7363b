use Rattle.std.proofs.Common.{◌≡◌, ◌∙◌, Some, ap, sym}
use Rattle.std.specs.FinMap.{get}
use Rattle.std.specs.Option.{option_copied}
use Rattle.std.proofs.lemmas.Result.{IfOk-weaker}
use Rattle.rr_object.specs.declared.key.Key.TheVariants.{RouteSet}
use Rattle.rr_sets.proofs.ReferenceLists.{references_of_none, references_of_set}
use Rattle.rr_sets.proofs.references.route_set_references.Goals as goal

pub returns-in-Some : goal.returns-in-Some
returns-in-Some c =
    IfOk-weaker c.references_listed.result _ _
    (λ references is r name found.
    let registered : get r (RouteSet name) ≡ Some c.in-Some.object.now =
    sym found ∙ ap option_copied c.in-Some.is in
    references_of_set r name c.in-Some.object.now c.members.result.now references.items registered
    c.members.ensures is)
    c.references_listed.ensures

pub returns-in-None : goal.returns-in-None
returns-in-None c = λ r name found.
    references_of_none r name c.new.result.items (sym found ∙ ap option_copied c.in-None.is)
    c.new.ensures.items
