use Rattle.std.proofs.lemmas.List.Sorted.{IsPermutation-sym, IsPermutation-trans}
use Rattle.std.proofs.lemmas.Result.{err_from_is_err_and}
use Rattle.rr_store.proofs.CheckLemmas.{both_err, each_err}
use Rattle.rr_store.proofs.InspectLemmas.{judged, no_bad_row, ok_if, unselected}
use Rattle.rr_store.proofs.checks.check_sorted_names.Goals as goal

pub returns : goal.returns
returns g c over =
    let rows = c.in_ok-rows.ensures over in
    judged g.S.Store c.args.conn.now c.sorted_named_rows.new.conn c.judge_names.result _ _
    rows.looks.rests rows.looks.same
    (λ clean.
    let listing = rows.found clean in
    ok_if c.judge_names.result _ (rw c.deref.ensures.value at c.judge_names.ensures.ok)
    (λ _ p. IsPermutation-trans _ _ _ p (IsPermutation-sym _ _ listing.same)))
    (λ clean.
    let listing = rows.found clean in
    both_err c.judge_names.result _ _ _
    ((rw c.deref.ensures.value at c.judge_names.ensures.bad_row) listing.sorted)
    c.judge_names.ensures.row_fault (λ fault h alone. record {
      bad_row = λ bad same. h bad (IsPermutation-trans _ _ _ same listing.same);
      no_other = alone.no_other;
    }))
    (each_err c.judge_names.result _ _ c.judge_names.ensures.row_fault
    (λ fault alone. alone.no_store))

pub returns-in_err-rows : goal.returns-in_err-rows
returns-in_err-rows g c =
    let exit = err_from_is_err_and c.from_residual.result c.from_residual.ensures.1 in
    rw (exit.1, exit.2) (λ over. unselected g.S.Store c.args.conn.now c.sorted_named_rows.new.conn _
    c.in_err-rows.field-0.0 _ _ (no_bad_row _ _ _) (c.in_err-rows.ensures over))
