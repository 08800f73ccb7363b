use Rattle.std.proofs.Common.{◌↔◌, ◌++◌, ◌∙◌, ℕ, Bor, List, Contains, Option, ap, subst}
use Rattle.std.specs.Option.{option_copied}
use Rattle.std.proofs.lemmas.List.{take_all}
use Rattle.rr_auth.specs.Registries.{LooksUp}
use Rattle.rr_object.specs.Objects.{Obj}
use Rattle.rr_object.specs.declared.key.Key.TheVariants.{AsSet}
use Rattle.rr_sets.specs.AsSets.{IsDirect}
use Rattle.rr_sets.proofs.Looking.{look_at}
use Rattle.rr_sets.proofs.Numbers.{missing_more, numbers_in_more}
use Rattle.rr_sets.proofs.as_sets.own_members.Goals as goal

pub direct_numbers-requires : goal.direct_numbers-requires
direct_numbers-requires g c =
    look_at (λ (name : List ℕ). λ (set : Option (Bor Obj)).
    LooksUp (g.B.Book.contents c.args.book.now) (AsSet name) (option_copied set)) c.args.names.now
    c.args.sets.now c.loop-place.place c.index-names-place.result c.index-sets-place.result
    c.requires c.loop-place-test.true c.index-names-place.is c.index-sets-place.is

pub loop-place-preserved : goal.loop-place-preserved
loop-place-preserved g c =
    let r = g.B.Book.contents c.args.book.now in
    let looked : LooksUp r (AsSet c.index-names-place.result)
    (option_copied c.index-sets-place.result) =
    look_at (λ (name : List ℕ). λ (set : Option (Bor Obj)). LooksUp r (AsSet name)
    (option_copied set)) c.args.names.now c.args.sets.now c.loop-place.place
    c.index-names-place.result c.index-sets-place.result c.requires c.loop-place-test.true
    c.index-names-place.is c.index-sets-place.is in
    record {
      found = numbers_in_more (IsDirect r) c.args.names.now
          c.loop-place.place c.index-names-place.result c.loop-place.found.items
          c.in_ok-direct_numbers.field-0.items c.extend_from_slice.new.self.items
          c.loop-place-test.true c.index-names-place.is c.loop-place.invariant.found
          c.in_ok-direct_numbers.ensures
          (c.in_ok-extend_from_slice.ensures.items
          ∙ ap (λ (l : List ℕ). c.loop-place.found.items ++ l) c.deref.ensures.value);
      missing = missing_more r c.args.names.now c.loop-place.place c.index-names-place.result
          c.loop-place.missing.items c.add_missing.new.missing.items
          c.loop-place-test.true c.index-names-place.is c.loop-place.invariant.missing
          (c.in_ok-add_missing.ensures r looked.found);
    }

pub returns-clause-found : goal.returns-clause-found
returns-clause-found g c =
    subst (λ (l : List (List ℕ)). (n : ℕ) → Contains c.loop-place.found.items n
    ↔ ((s : List ℕ) × Contains l s × IsDirect (g.B.Book.contents c.args.book.now) s n))
    (take_all c.loop-place.place c.args.names.now c.loop-place-test.false)
    c.loop-place.invariant.found
