use Rattle.std.proofs.Common.{◌≡◌, sym, ◌∙◌}
use Rattle.rr_store.proofs.ObjectLemmas.{any_attribute, any_whole}
use Rattle.rr_store.proofs.SourceLemmas.{names_one, read_own, some_is_none}
use Rattle.rr_store.proofs.leaving_names.read_any.Goals as goal

pub returns-in_ok-read_paragraph-in-Some-2-clause-found :
    goal.returns-in_ok-read_paragraph-in-Some-2-clause-found
returns-in_ok-read_paragraph-in-Some-2-clause-found c =
    any_whole _ c.args.text.now c.in-Some.paragraph c.in_ok-read_paragraph-in-Some-2.field-0
    c.in_ok-read_paragraph-in-Some-2.ensures.found
    (rw c.in-Some.is at c.in_ok-paragraph.ensures.fields).1
    (rw c.in-Some.is at c.in_ok-paragraph.ensures.found)

pub returns-in_ok-read_paragraph-in-Some-2-clause-only :
    goal.returns-in_ok-read_paragraph-in-Some-2-clause-only
returns-in_ok-read_paragraph-in-Some-2-clause-only c object is same =
    let e = c.in_ok-paragraph.ensures.only object.paragraph (any_attribute object.paragraph object
    is.read) is.fields same in
    let one : c.in-Some.paragraph ≡ object.paragraph = cc in
    c.in_ok-read_paragraph-in-Some-2.ensures.only object (read_own _ c.in-Some.paragraph object is
    one (sym c.in-Some-2.is ∙ c.in_ok-source.ensures))

pub returns-in-None-clause-only : goal.returns-in-None-clause-only
returns-in-None-clause-only c object is same =
    let e = c.in_ok-paragraph.ensures.only object.paragraph (any_attribute object.paragraph object
    is.read) is.fields same in
    let one : c.in-Some.paragraph ≡ object.paragraph = cc in
    absurd (names_one c.in-Some.paragraph object is one (sym c.in-None.is ∙ c.in_ok-source.ensures))

pub returns-in_default-clause-only : goal.returns-in_default-clause-only
returns-in_default-clause-only c object is same =
    let e = c.in_ok-paragraph.ensures.only object.paragraph (any_attribute object.paragraph object
    is.read) is.fields same in
    absurd (some_is_none object.paragraph (sym e ∙ c.in_default.is))
