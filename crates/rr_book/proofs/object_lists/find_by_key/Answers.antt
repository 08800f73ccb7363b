use Rattle.std.proofs.Common.{◌∙◌, length, refl, sym, true, false}
use Rattle.std.proofs.lemmas.Bool.{ltb-false, ltb-true}
use Rattle.std.proofs.lemmas.Option.{slice_get_past, slice_get_read}
use Rattle.rr_book.proofs.Places.{found_nowhere, found_there}
use Rattle.rr_book.proofs.object_lists.find_by_key.Goals as goal
use Rattle.rr_book.specs.Private.{place_of}

pub returns-in-None : goal.returns-in-None
returns-in-None c =
    let os = c.args.objects.now in
    let place = place_of c.args.key.now os in
    let nothing = rw c.place.ensures.value at c.in-None.ensures.lookup in
    sym (found_nowhere c.args.key.now os c.requires
    (slice_get_past os place (ltb-false place (length os) (sym nothing.0))))

pub returns-then-is_same : goal.returns-then-is_same
returns-then-is_same c =
    let os = c.args.objects.now in
    let place = place_of c.args.key.now os in
    let object = c.in-Some.object.now in
    let there = rw c.place.ensures.value at c.in-Some.ensures.lookup in
    let own = rw c.key.ensures.value at c.is_same.ensures in
    sym (found_there c.args.key.now os object true c.requires
    (slice_get_read os (length os) place object refl (ltb-true place (length os) (sym there.0))
    there.1) (sym c.if-is_same.true ∙ own))

pub returns-else-is_same : goal.returns-else-is_same
returns-else-is_same c =
    let os = c.args.objects.now in
    let place = place_of c.args.key.now os in
    let object = c.in-Some.object.now in
    let there = rw c.place.ensures.value at c.in-Some.ensures.lookup in
    let own = rw c.key.ensures.value at c.is_same.ensures in
    sym (found_there c.args.key.now os object false c.requires
    (slice_get_read os (length os) place object refl (ltb-true place (length os) (sym there.0))
    there.1) (sym c.if-is_same.false ∙ own))
