use Rattle.std.proofs.Common.{length, ap, ◌∙◌}
use Rattle.std.specs.Prelude.{◌==◌}
use Rattle.std.proofs.lemmas.Result.{err_from_is_err_and}
use Rattle.rr_store.proofs.InspectLemmas.{selects_as, unselected_as}
use Rattle.rr_store.proofs.TidyLemmas.{empty_as}
use Rattle.rr_store.proofs.vacancy.object_is_empty.Goals as goal

pub returns : goal.returns
returns g c over =
    selects_as g.S.Store c.args.conn.now c.object_numbers.new.conn c.in_ok-rows.rows
    c.is_empty.result _ _ (c.in_ok-rows.ensures over)
    (λ clean found. empty_as c.is_empty.result _ _ found.same
    (c.is_empty.ensures ∙ ap (λ xs. length xs == 0) c.as_slice.ensures.value))

pub returns-in_err-rows : goal.returns-in_err-rows
returns-in_err-rows g c =
    let exit = err_from_is_err_and c.from_residual.result c.from_residual.ensures.1 in
    rw (exit.1, exit.2) (λ over. unselected_as g.S.Store c.args.conn.now c.object_numbers.new.conn _
    c.in_err-rows.field-0.0 _ (c.in_err-rows.ensures over))
