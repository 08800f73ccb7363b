use Rattle.std.proofs.Common.{◌≡◌, sym, subst}
use Rattle.rr_object.specs.Readings.{ReadsAs}
use Rattle.rr_store.proofs.ObjectLemmas.{each_whole, has_attribute}
use Rattle.rr_store.proofs.objects.read_text.Goals as goal

pub returns-in_ok-read_paragraph-in-Some-clause-found :
    goal.returns-in_ok-read_paragraph-in-Some-clause-found
returns-in_ok-read_paragraph-in-Some-clause-found c =
    each_whole c.args.source.now c.args.text.now c.in-Some.paragraph
    c.in_ok-read_paragraph-in-Some.field-0 c.in_ok-read_paragraph-in-Some.ensures.found
    (rw c.in-Some.is at c.in_ok-paragraph.ensures.fields).1
    (rw c.in-Some.is at c.in_ok-paragraph.ensures.found)

pub returns-in_ok-read_paragraph-in-Some-clause-only :
    goal.returns-in_ok-read_paragraph-in-Some-clause-only
returns-in_ok-read_paragraph-in-Some-clause-only c object is same =
    let e = c.in_ok-paragraph.ensures.only object.paragraph
    (has_attribute object.paragraph c.args.source.now object is.read) is.fields same in
    let one : c.in-Some.paragraph ≡ object.paragraph = cc in
    c.in_ok-read_paragraph-in-Some.ensures.only object
    (subst (λ fs. ReadsAs c.args.source.now fs object) (sym one) is.read)

pub returns-in-None-clause-only : goal.returns-in-None-clause-only
returns-in-None-clause-only c object is same =
    let e = c.in_ok-paragraph.ensures.only object.paragraph
    (has_attribute object.paragraph c.args.source.now object is.read) is.fields same in
    absurd (cc)
