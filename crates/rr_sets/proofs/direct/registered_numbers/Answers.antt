use Rattle.std.proofs.Common.{◌≡◌, ◌↔◌, ◌++◌, ◌∙◌, ℕ, List, Bor, Contains, IsTrue, Some, ap, sym}
use Rattle.std.proofs.Common.{subst}
use Rattle.std.specs.FinMap.{get}
use Rattle.std.specs.List.{filter_map}
use Rattle.std.specs.Option.{option_copied}
use Rattle.rr_object.specs.Objects.{Obj}
use Rattle.rr_object.specs.declared.key.Key.TheVariants.{AsSet}
use Rattle.rr_sets.specs.Lists.{IsReferrer, lent}
use Rattle.rr_sets.specs.KeyParts.{number_of_key}
use Rattle.rr_sets.specs.SetObjects.{number_listed, takes}
use Rattle.rr_sets.proofs.Numbers.{numbers_of_set}
use Rattle.rr_sets.proofs.direct.registered_numbers.Goals as goal

pub returns-in_ok-extend_from_slice-in-Some : goal.returns-in_ok-extend_from_slice-in-Some
returns-in_ok-extend_from_slice-in-Some g c =
    let r = g.B.Book.contents c.args.book.now in
    let registered : get r (AsSet c.args.name.now) ≡ Some c.in-Some.object.now =
    sym c.requires.found ∙ ap option_copied c.in-Some.is in
    let belong : (o : Obj) → Contains (lent c.deref.result.now) o
    ↔ (IsReferrer r c.args.name.now o × IsTrue (takes c.in-Some.object.now.by_ref o)) =
    subst (λ (l : List (Bor Obj)). (o : Obj) → Contains (lent l) o
    ↔ (IsReferrer r c.args.name.now o × IsTrue (takes c.in-Some.object.now.by_ref o)))
    (sym c.deref.ensures.value) c.in_ok-objects-in-Some.ensures in
    let numbers : c.extend_from_slice.new.self.items ≡ filter_map number_listed
    c.members.result.now ++ filter_map (λ (o : Bor Obj). number_of_key o.now.key)
    c.deref.result.now =
    c.in_ok-extend_from_slice-in-Some.ensures.items
    ∙ ap (λ (l : List ℕ). l ++ c.deref-in-Some.result.now) c.in_ok-numbers-in-Some.ensures
    ∙ ap (λ (l : List ℕ). filter_map number_listed c.members.result.now ++ l)
    (c.deref-in-Some.ensures.value ∙ c.in_ok-numbers_of-in-Some.ensures) in
    numbers_of_set r c.requires.sound c.args.name.now c.in-Some.object.now
    c.deref.result.now c.members.result.now c.extend_from_slice.new.self.items
    registered c.members.ensures belong numbers
