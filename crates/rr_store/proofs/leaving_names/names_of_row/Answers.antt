use Rattle.std.proofs.Common.{ap}
use Rattle.sqlite_value.specs.Order.{column}
use Rattle.rr_store.proofs.ObjectLemmas.{names_told, text_told}
use Rattle.rr_store.proofs.SourceLemmas.{some_never}
use Rattle.rr_store.proofs.leaving_names.names_of_row.Goals as goal

pub returns-in_ok-maintainers_of-in-Some-2-clause-names :
    goal.returns-in_ok-maintainers_of-in-Some-2-clause-names
returns-in_ok-maintainers_of-in-Some-2-clause-names c object is row =
    let found = rw c.in-Some-2.is at c.in_ok-object.ensures.found in
    names_told _ object c.args.row.now c.in-Some.text.now
    c.in_ok-maintainers_of-in-Some-2.field-0.items found.0 found.1 c.in-Some.ensures.found
    c.in_ok-maintainers_of-in-Some-2.ensures is row

pub returns-in-None-clause-refused : goal.returns-in-None-clause-refused
returns-in-None-clause-refused c other object is row =
    let some = c.in_ok-object.ensures.only object is
    (text_told object c.args.row.now c.in-Some.text.now c.in-Some.ensures.found row) in
    absurd (some_never _ c.in-None.is some)

pub returns-in_default-clause-refused : goal.returns-in_default-clause-refused
returns-in_default-clause-refused c other object is row = c.bytes_at.ensures.none _ c.in_default.is
    (ap (λ r. column r 2) row)
