-- Reading moves what was given, and an entry moves what was read of it.
use Rattle.std.proofs.Common.{[], ◌∷◌, ◌++◌, Ok, ap, sym, refl, arith, length-append}
use Rattle.std.proofs.lemmas.Result.{err_from_is_err_and}
use Rattle.rr_desk.proofs.Found.{found_whole, given_few, unended}
use Rattle.rr_desk.proofs.dump_reading.read_entries.Goals as goal

pub entries-init : goal.entries-init
entries-init g c = ([], c.requires, refl, ap Ok (sym c.new.ensures.items))

pub overflow_add-count : goal.overflow_add-count
overflow_add-count g c =
    let so = c.entries.invariant in
    omega (arith, so.2, given_few _ _ c.entries.paragraphs so.0 so.1)

pub entries-preserved : goal.entries-preserved
entries-preserved g c =
    let so = c.entries.invariant in
    let found = rw c.in-Some.is at (c.in_ok-entry.ensures.finds _ so.0 so.1) in (
      so.0 ++ found.entry ∷ [],
      found.has,
      omega (arith, so.2, length-append so.0 (found.entry ∷ [])),
      c.with_entry-read.ensures so.0 found.entry (omega (arith, so.2)) found.is so.3,
    )

pub returns-in_err-entry : goal.returns-in_err-entry
returns-in_err-entry g c =
    let exit = err_from_is_err_and c.from_residual.result c.from_residual.ensures.1 in
    let so = c.entries.invariant in
    rw (exit.1, exit.2) (unended c.args.source.now _ _ c.next_entry.new.paragraphs _ _
    (c.in_err-entry.ensures.finds _ so.0 so.1))

pub returns-in-None : goal.returns-in-None
returns-in-None g c =
    let so = c.entries.invariant in
    let ended = rw c.in-None.is at (c.in_ok-entry.ensures.finds _ so.0 so.1) in
    found_whole _ _ _ _ _ c.entries.read ended so.3
