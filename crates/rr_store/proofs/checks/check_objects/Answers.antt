use Rattle.std.proofs.Common.{arith}
use Rattle.std.proofs.lemmas.Result.{err_from_is_err_and}
use Rattle.rr_store.specs.LookParts.{IsTabled}
use Rattle.rr_store.proofs.InspectLemmas.{inspects_as, inspects_then, no_bad_row, seen_then}
use Rattle.rr_store.proofs.InspectLemmas.{uncounted}
use Rattle.rr_store.proofs.checks.check_objects.Goals as goal

pub returns-clause-inspects : goal.returns-clause-inspects
returns-clause-inspects g c over =
    let count = c.in_ok-count.ensures over in
    let read = c.read_objects.ensures.inspects (seen_then g.S.Store c.args.conn.now
    c.count_object.new.conn count.looks.rests count.looks.same IsTabled over) in
    inspects_as g.S.Store c.args.conn.now c.read_objects.new.conn c.read_objects.result _ _ _ _
    (inspects_then g.S.Store c.args.conn.now c.count_object.new.conn
    count.looks.rests count.looks.same c.read_objects.new.conn c.read_objects.result _ _ read)
    (λ clean objects held. (
      count.numbered (omega (arith, clean, read.looks.rests.crash.clean)),
      held,
    )) (λ clean fault why. why)

pub returns-in_err-count-clause-inspects : goal.returns-in_err-count-clause-inspects
returns-in_err-count-clause-inspects g c =
    let exit = err_from_is_err_and c.from_residual.result c.from_residual.ensures.1 in
    rw (exit.1, exit.2) (λ over. uncounted g.S.Store c.args.conn.now c.count_object.new.conn _
    c.in_err-count.field-0.0 _ _ (no_bad_row _ _ _) (c.in_err-count.ensures over))
