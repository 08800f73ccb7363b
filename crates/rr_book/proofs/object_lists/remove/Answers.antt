use Rattle.std.proofs.Common.{◌<◌, ◌∙◌, length, refl, sym, true, false}
use Rattle.std.proofs.lemmas.Option.{slice_get_read}
use Rattle.rr_book.proofs.Places.{found_not_standing, found_standing, others_left}
use Rattle.rr_book.proofs.object_lists.remove.Goals as goal

pub returns-then-stands_at-clause-rest : goal.returns-then-stands_at-clause-rest
returns-then-stands_at-clause-rest c =
    let place = rw c.deref.ensures.value at c.place-at.ensures.value in
    let stands = rw c.deref-2.ensures.value at c.stands_at.ensures.value in
    c.remove.ensures.items ∙ sym (others_left c.args.key.now c.args.objects.now.items
    c.place-at.result true c.requires place (sym stands ∙ c.if-stands_at.true))

pub returns-then-stands_at-clause-old : goal.returns-then-stands_at-clause-old
returns-then-stands_at-clause-old c =
    let os = c.args.objects.now.items in
    let at = c.place-at.result in
    let place = rw c.deref.ensures.value at c.place-at.ensures.value in
    let stands = rw c.deref-2.ensures.value at c.stands_at.ensures.value in
    let inside : at < length os = rw c.deref-2.ensures.value at
    (c.if-stands_at.ensures.within refl) in
    let found = found_standing c.args.key.now os at c.requires place
    (sym stands ∙ c.if-stands_at.true) in
    let there = slice_get_read os (length os) at c.remove.result refl inside
    c.remove.ensures.value in
    sym (found ∙ there)

pub returns-else-stands_at-clause-rest : goal.returns-else-stands_at-clause-rest
returns-else-stands_at-clause-rest c =
    let place = rw c.deref.ensures.value at c.place-at.ensures.value in
    let stands = rw c.deref-2.ensures.value at c.stands_at.ensures.value in
    sym (others_left c.args.key.now c.args.objects.now.items c.place-at.result false c.requires
    place (sym stands ∙ c.if-stands_at.false))

pub returns-else-stands_at-clause-old : goal.returns-else-stands_at-clause-old
returns-else-stands_at-clause-old c =
    let place = rw c.deref.ensures.value at c.place-at.ensures.value in
    let stands = rw c.deref-2.ensures.value at c.stands_at.ensures.value in
    sym (found_not_standing c.args.key.now c.args.objects.now.items c.place-at.result c.requires
    place (sym stands ∙ c.if-stands_at.false))
