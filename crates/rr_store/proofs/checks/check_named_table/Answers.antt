use Rattle.std.proofs.Common.{arith}
use Rattle.std.proofs.lemmas.Result.{err_from_is_err_and}
use Rattle.rr_store.specs.LookParts.{IsTabled}
use Rattle.rr_store.proofs.InspectLemmas.{inspects_as, inspects_then, no_bad_row, seen_then}
use Rattle.rr_store.proofs.InspectLemmas.{uncounted}
use Rattle.rr_store.proofs.checks.check_named_table.Goals as goal

pub returns : goal.returns
returns g c over =
    let count = c.in_ok-_count.ensures over in
    let judged = c.check_maintainers.ensures (seen_then g.S.Store c.args.conn.now
    c.count_named.new.conn count.looks.rests count.looks.same IsTabled over) in
    inspects_as g.S.Store c.args.conn.now c.check_maintainers.new.conn c.check_maintainers.result
    _ _ _ _
    (inspects_then g.S.Store c.args.conn.now c.count_named.new.conn
    count.looks.rests count.looks.same c.check_maintainers.new.conn c.check_maintainers.result
    _ _ judged)
    (λ clean _ named. (
      count.numbered (omega (arith, clean, judged.looks.rests.crash.clean)),
      named,
    )) (λ clean fault why. why)

pub returns-in_err-_count : goal.returns-in_err-_count
returns-in_err-_count g c =
    let exit = err_from_is_err_and c.from_residual.result c.from_residual.ensures.1 in
    rw (exit.1, exit.2) (λ over. uncounted g.S.Store c.args.conn.now c.count_named.new.conn _
    c.in_err-_count.field-0.0 _ _ (no_bad_row _ _ _) (c.in_err-_count.ensures over))
