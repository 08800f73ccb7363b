use Rattle.std.proofs.Common.{◌∙◌, length, refl, sym, true, false}
use Rattle.std.proofs.lemmas.Bool.{ltb-false, ltb-true}
use Rattle.std.proofs.lemmas.Option.{slice_get_past, slice_get_read}
use Rattle.rr_object.specs.declared.key.Key.TheVariants.{Mntner}
use Rattle.rr_book.proofs.Places.{mntner_nowhere, mntner_there}
use Rattle.rr_book.proofs.object_lists.find_mntner.Goals as goal
use Rattle.rr_book.specs.Private.{place_of}

pub returns-in-None : goal.returns-in-None
returns-in-None c =
    let os = c.args.objects.now in
    let place = place_of (Mntner c.args.name.now) os in
    let nothing = rw c.place_of_mntner.ensures at c.in-None.ensures.lookup in
    sym (mntner_nowhere c.args.name.now os c.requires
    (slice_get_past os place (ltb-false place (length os) (sym nothing.0))))

pub returns-then-is_mntner_of : goal.returns-then-is_mntner_of
returns-then-is_mntner_of c =
    let os = c.args.objects.now in
    let place = place_of (Mntner c.args.name.now) os in
    let object = c.in-Some.object.now in
    let there = rw c.place_of_mntner.ensures at c.in-Some.ensures.lookup in
    let own = rw c.key.ensures.value at c.is_mntner_of.ensures in
    sym (mntner_there c.args.name.now os object true c.requires
    (slice_get_read os (length os) place object refl (ltb-true place (length os) (sym there.0))
    there.1) (sym c.if-is_mntner_of.true ∙ own))

pub returns-else-is_mntner_of : goal.returns-else-is_mntner_of
returns-else-is_mntner_of c =
    let os = c.args.objects.now in
    let place = place_of (Mntner c.args.name.now) os in
    let object = c.in-Some.object.now in
    let there = rw c.place_of_mntner.ensures at c.in-Some.ensures.lookup in
    let own = rw c.key.ensures.value at c.is_mntner_of.ensures in
    sym (mntner_there c.args.name.now os object false c.requires
    (slice_get_read os (length os) place object refl (ltb-true place (length os) (sym there.0))
    there.1) (sym c.if-is_mntner_of.false ∙ own))
