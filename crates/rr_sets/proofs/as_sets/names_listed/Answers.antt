use Rattle.std.proofs.Common.{◌≡◌, ◌∙◌, Bor, List, ℕ, Some, ap, map, sym}
use Rattle.std.specs.FinMap.{get}
use Rattle.std.specs.Option.{option_copied}
use Rattle.std.proofs.lemmas.Result.{IfOk-weaker}
use Rattle.rr_object.specs.declared.key.Key.TheVariants.{AsSet}
use Rattle.rr_sets.proofs.Numbers.{names_that_are_listed}
use Rattle.rr_sets.proofs.as_sets.names_listed.Goals as goal

pub returns-in-Some : goal.returns-in-Some
returns-in-Some c =
    IfOk-weaker c.sets_listed.result _ _
    (λ names is r name found.
    let registered : get r (AsSet name) ≡ Some c.in-Some.object.now =
    sym found ∙ ap option_copied c.in-Some.is in
    names_that_are_listed r name c.in-Some.object.now c.members.result.now
    (map (λ (n : Bor (List ℕ)). n.now) names.items) registered c.members.ensures is)
    c.sets_listed.ensures
