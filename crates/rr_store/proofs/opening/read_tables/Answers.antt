use Rattle.std.proofs.Common.{arith}
use Rattle.std.proofs.lemmas.Result.{err_from_is_err_and}
use Rattle.sqlite.specs.Held.{state}
use Rattle.sqlite.specs.State.{HasCleanDisk}
use Rattle.rr_store.specs.CheckParts.{HasNumberedMeta}
use Rattle.rr_store.proofs.InspectLemmas.{inspects_as, inspects_then, refused_as, seen_then}
use Rattle.rr_store.proofs.StoredLemmas.{rows_refuse, version_refuses}
use Rattle.rr_store.proofs.opening.read_tables.Goals as goal

pub returns : goal.returns
returns g c over =
    let old = c.args.conn.now in
    let mid = c.check_version.new.conn in
    let new = c.checked_objects.new.conn in
    let said = c.in_ok-check_version.ensures (λ clean. (over clean).tables) in
    let lists = c.checked_objects.ensures (seen_then g.S.Store old mid said.looks.rests
    said.looks.same HasNumberedMeta over) in
    let before : HasCleanDisk (state g.S.Store new) → HasCleanDisk (state g.S.Store mid) = λ clean.
    omega (arith, clean, lists.inspects.looks.rests.crash.clean) in
    let first : HasCleanDisk (state g.S.Store new) → HasCleanDisk (state g.S.Store old) = λ clean.
    let mid_clean = before clean in omega (arith, mid_clean, said.looks.rests.crash.clean) in
    record {
      inspects = inspects_as g.S.Store old new c.checked_objects.result _ _ _ _
          (inspects_then g.S.Store old mid said.looks.rests said.looks.same new
          c.checked_objects.result _ _ lists.inspects)
          (λ clean objects stored. stored (said.read (before clean)))
          (λ clean fault why. rows_refuse c.args.version c.args.source.now
          (state g.S.Store old).now fault (over (first clean)).tables
          (said.read (before clean)) why.no_other why.bad_row);
      listed = lists.listed;
    }

pub returns-in_err-check_version : goal.returns-in_err-check_version
returns-in_err-check_version g c =
    let exit = err_from_is_err_and c.from_residual.result c.from_residual.ensures.1 in
    rw (exit.1, exit.2) (λ over.
    let said = c.in_err-check_version.ensures (λ clean. (over clean).tables) in
    record {
      inspects = refused_as g.S.Store c.args.conn.now c.check_version.new.conn
          c.in_err-check_version.field-0.0 _ _ _ _ said
          (λ clean why. version_refuses c.args.version
          c.args.source.now (state g.S.Store c.args.conn.now).now c.in_err-check_version.field-0.0
          (over (omega (arith, clean, said.looks.rests.crash.clean))).tables why);
      listed = tt;
    })
