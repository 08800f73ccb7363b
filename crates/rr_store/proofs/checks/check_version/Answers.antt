use Rattle.std.proofs.lemmas.Result.{err_from_is_err_and}
use Rattle.rr_store.proofs.CheckLemmas.{each_err, fault_of_held, only_row}
use Rattle.rr_store.proofs.InspectLemmas.{judged, ok_if, unselected}
use Rattle.rr_store.proofs.checks.check_version.Goals as goal

pub returns : goal.returns
returns g c over =
    let rows = c.in_ok-rows.ensures over in
    judged g.S.Store c.args.conn.now c.meta_rows.new.conn c.judge_version.result _ _
    rows.looks.rests rows.looks.same
    (λ clean.
    let listing = rows.found clean in
    ok_if c.judge_version.result _ (rw c.deref.ensures.value at c.judge_version.ensures.ok)
    (λ _ is. only_row _ _ _ listing.same is))
    (λ clean.
    let listing = rows.found clean in
    each_err c.judge_version.result _ _ (rw c.deref.ensures.value at c.judge_version.ensures.fault)
    (λ fault h. fault_of_held c.args.version _ _ listing.same fault h))
    c.judge_version.ensures.no_store

pub returns-in_err-rows : goal.returns-in_err-rows
returns-in_err-rows g c =
    let exit = err_from_is_err_and c.from_residual.result c.from_residual.ensures.1 in
    rw (exit.1, exit.2) (λ over. unselected g.S.Store c.args.conn.now c.meta_rows.new.conn _
    c.in_err-rows.field-0.0 _ _ tt (c.in_err-rows.ensures over))
