use Rattle.std.proofs.Common.{◌<◌, ◌∙◌, Some, ap, length, refl, sym}
use Rattle.std.proofs.lemmas.Option.{slice_get_read}
use Rattle.rr_book.proofs.Places.{found_not_standing, found_standing}
use Rattle.rr_book.proofs.object_lists.put.Goals as goal

pub returns-then-stands_at-clause-old : goal.returns-then-stands_at-clause-old
returns-then-stands_at-clause-old c =
    let os = c.args.objects.now.items in
    let at = c.place-at.result in
    let place = rw (c.deref.ensures.value, c.key.ensures.value) at c.place-at.ensures.value in
    let stands = rw (c.deref-2.ensures.value, c.key-2.ensures.value) at c.stands_at.ensures.value in
    let inside : at < length os = rw c.deref-2.ensures.value at
    (c.if-stands_at.ensures.within refl) in
    let found = found_standing c.args.object.key os at c.requires place
    (sym stands ∙ c.if-stands_at.true) in
    let there = slice_get_read os (length os) at c.index_mut.result.now refl inside
    c.index_mut.ensures.value in
    ap Some c.replace.ensures.value ∙ sym (found ∙ there)

pub returns-clause-old : goal.returns-clause-old
returns-clause-old c =
    let os = c.args.objects.now.items in
    let place = rw (c.deref.ensures.value, c.key.ensures.value) at c.place-at.ensures.value in
    let stands = rw (c.deref-2.ensures.value, c.key-2.ensures.value) at c.stands_at.ensures.value in
    sym (found_not_standing c.args.object.key os c.place-at.result c.requires place
    (sym stands ∙ c.if-stands_at.false))
