use Rattle.std.proofs.Common.{◌≡◌, ◌↔◌, ◌++◌, ◌∙◌, List, Bor, Contains, IsTrue, Some, ap, subst}
use Rattle.std.proofs.Common.{sym}
use Rattle.std.specs.List.{filter_map}
use Rattle.std.specs.Option.{option_copied}
use Rattle.rr_number.specs.Ranges.{RangeParts}
use Rattle.rr_object.specs.Objects.{Obj}
use Rattle.rr_sets.specs.KeyParts.{range_of_key}
use Rattle.rr_sets.specs.Lists.{IsReferrer, lent}
use Rattle.rr_sets.specs.MemberParts.{range_listed}
use Rattle.rr_sets.specs.RouteSets.{registered_set}
use Rattle.rr_sets.specs.SetObjects.{takes}
use Rattle.rr_sets.proofs.RangeLists.{ranges_of_set, ranges_that_are_taken}
use Rattle.rr_sets.proofs.ranges.registered_ranges.Goals as goal

pub returns-in_ok-extend_from_slice-in-Some : goal.returns-in_ok-extend_from_slice-in-Some
returns-in_ok-extend_from_slice-in-Some g c =
    let r = g.B.Book.contents c.args.book.now in
    let registered : registered_set r c.args.name.now ≡ Some c.in-Some.object.now =
    sym c.requires.found ∙ ap option_copied c.in-Some.is in
    let belong : (o : Obj) → Contains (lent c.deref.result.now) o
    ↔ (IsReferrer r c.args.name.now o × IsTrue (takes c.in-Some.object.now.by_ref o)) =
    subst (λ (l : List (Bor Obj)). (o : Obj) → Contains (lent l) o
    ↔ (IsReferrer r c.args.name.now o × IsTrue (takes c.in-Some.object.now.by_ref o)))
    (sym c.deref.ensures.value) c.in_ok-objects-in-Some.ensures in
    let taken = ranges_that_are_taken r c.requires.sound c.in-Some.object.now.by_ref
    c.args.name.now c.deref.result.now belong in
    let own = filter_map (λ (o : Bor Obj). range_of_key o.now.key) c.deref.result.now in
    let ranges : c.extend_from_slice.new.self.items ≡ filter_map range_listed c.members.result.now
    ++ own =
    c.in_ok-extend_from_slice-in-Some.ensures.items
    ∙ ap (λ (l : List RangeParts). l ++ c.deref-in-Some.result.now) c.in_ok-ranges-in-Some.ensures
    ∙ ap (λ (l : List RangeParts). filter_map range_listed c.members.result.now ++ l)
    (c.deref-in-Some.ensures.value ∙ c.in_ok-ranges_of-in-Some.ensures) in
    ranges_of_set r c.args.name.now c.in-Some.object.now c.members.result.now
    c.extend_from_slice.new.self.items own registered c.members.ensures taken ranges
