use Rattle.std.proofs.Common.{subst, sym, ◌∙◌, inr}
use Rattle.rr_auth.specs.Registries.{Sound}
use Rattle.rr_registry.proofs.Gathering.{gathered_is_book, found_fault, fault_after}
use Rattle.rr_registry.proofs.registry.Registry.from_objects.Goals as goal

pub of-requires : goal.of-requires
of-requires g c =
    let os = c.args.objects.items in
    let place = rw c.deref.ensures.value at c.in_ok-unnamed.ensures.value in
    gathered_is_book os c.in_ok-gathered.gathered.items c.in_ok-gathered.ensures
    (found_fault os _ (sym c.in-None.is ∙ place))

pub of-requires-in-None : goal.of-requires-in-None
of-requires-in-None g c =
    let os = c.args.objects.items in
    let place = rw c.deref.ensures.value at c.in_ok-unnamed.ensures.value in
    subst Sound (sym c.in_ok-of-in-None.ensures)
    (gathered_is_book os c.in_ok-gathered.gathered.items c.in_ok-gathered.ensures
    (found_fault os _ (sym c.in-None.is ∙ place))).sound

pub returns-in-Some-clause-taken : goal.returns-in-Some-clause-taken
returns-in-Some-clause-taken g c =
    let os = c.args.objects.items in
    let place = rw c.deref.ensures.value at c.in_ok-unnamed.ensures.value in
    inr (fault_after os c.in_ok-gathered.gathered.items _ c.in_ok-gathered.ensures
    (found_fault os _ (sym c.in-Some.is ∙ place)))

pub returns-in_ok-of-in-None-clause-taken : goal.returns-in_ok-of-in-None-clause-taken
returns-in_ok-of-in-None-clause-taken g c =
    let os = c.args.objects.items in
    let place = rw c.deref.ensures.value at c.in_ok-unnamed.ensures.value in
    record {
      faultless = fault_after os c.in_ok-gathered.gathered.items _ c.in_ok-gathered.ensures
          (found_fault os _ (sym c.in-None.is ∙ place));
      whole = c.of-in-None.ensures ∙ c.in_ok-of-in-None.ensures ∙ c.in_ok-gathered.ensures.whole;
    }
