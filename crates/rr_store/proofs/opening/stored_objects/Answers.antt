use Rattle.std.proofs.Common.{subst, sym}
use Rattle.std.proofs.lemmas.Result.{err_from_is_err_and}
use Rattle.sqlite.specs.Held.{state}
use Rattle.rr_store.specs.Calls.{FailsOverTidy}
use Rattle.rr_store.specs.CheckParts.{HasNumberedMeta}
use Rattle.rr_store.proofs.FailureLemmas.{is_store}
use Rattle.rr_store.proofs.InspectLemmas.{inspects_then}
use Rattle.rr_store.proofs.StoredLemmas.{database_refuses}
use Rattle.rr_store.proofs.opening.stored_objects.Goals as goal

pub returns : goal.returns
returns g c =
    let meta = c.in_ok-check_meta.ensures in
    let lists = c.read_tables.ensures (λ clean. subst HasNumberedMeta
    (sym (meta.looks.same clean).0.now_is) (meta.meta clean)) in
    record {
      inspects = inspects_then g.S.Store c.args.conn.now c.check_meta.new.conn meta.looks.rests
          meta.looks.same c.read_tables.new.conn c.read_tables.result _ _ lists.inspects;
      listed = lists.listed;
    }

pub returns-in_err-check_meta : goal.returns-in_err-check_meta
returns-in_err-check_meta g c =
    let exit = err_from_is_err_and c.from_residual.result c.from_residual.ensures.1 in
    let failed = c.in_err-check_meta.ensures in
    rw (exit.1, exit.2) (record {
      inspects = record {
        looks = record { rests = failed.looks.rests; same = λ clean. tt };
        read = λ clean. tt;
        why = λ clean. database_refuses c.args.version c.args.source.now
            (state g.S.Store c.args.conn.now).now c.in_err-check_meta.field-0.0 failed.untabled;
        cause = is_store (FailsOverTidy g.S.Store c.args.conn.now c.check_meta.new.conn)
            c.in_err-check_meta.field-0.0 failed.cause;
      };
      listed = tt;
    })
