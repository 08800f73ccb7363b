use Rattle.std.proofs.lemmas.Result.{err_from_is_err_and}
use Rattle.rr_store.specs.LookParts.{HoldsOnCleanDisk, IsTabled}
use Rattle.rr_store.proofs.meta_check.check_meta.Goals as goal

pub returns-clause-looks : goal.returns-clause-looks
returns-clause-looks g c =
    let tabled : HoldsOnCleanDisk g.S.Store IsTabled c.args.conn.now = λ clean.
    rw c.schema.ensures at (c.has_tables.ensures.is c.if-not-has_tables.false) in
    let looks = (c.in_ok-_count.ensures tabled).looks in
    record { rests = looks.rests; same = looks.same }

pub returns-clause-meta : goal.returns-clause-meta
returns-clause-meta g c clean =
    let has =
    rw c.schema.ensures at (c.has_tables.ensures.is c.if-not-has_tables.false) in
    let tabled : HoldsOnCleanDisk g.S.Store IsTabled c.args.conn.now = λ clean. has in
    record { tables = has; numbered = (c.in_ok-_count.ensures tabled).numbered clean }

pub returns-in_err-_count-clause-looks : goal.returns-in_err-_count-clause-looks
returns-in_err-_count-clause-looks g c =
    let exit = err_from_is_err_and c.from_residual.result c.from_residual.ensures.1 in
    let tabled : HoldsOnCleanDisk g.S.Store IsTabled c.args.conn.now = λ clean.
    rw c.schema.ensures at (c.has_tables.ensures.is c.if-not-has_tables.false) in
    rw (exit.1, exit.2) (record {
      rests = (c.in_err-_count.ensures tabled).looks.rests;
      same = λ clean. tt;
    })

pub returns-in_err-_count-clause-cause : goal.returns-in_err-_count-clause-cause
returns-in_err-_count-clause-cause g c =
    let exit = err_from_is_err_and c.from_residual.result c.from_residual.ensures.1 in
    let tabled : HoldsOnCleanDisk g.S.Store IsTabled c.args.conn.now = λ clean.
    rw c.schema.ensures at (c.has_tables.ensures.is c.if-not-has_tables.false) in
    rw (exit.1, exit.2) (c.in_err-_count.ensures tabled).cause
