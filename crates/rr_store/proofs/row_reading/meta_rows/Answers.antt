use Rattle.std.proofs.Common.{arith, []}
use Rattle.sqlite.specs.Held.{state}
use Rattle.rr_store.specs.Calls.{Looks}
use Rattle.rr_store.specs.Texts.{select_meta}
use Rattle.rr_store.proofs.TextLemmas.{select_meta_is}
use Rattle.rr_store.proofs.StatementLemmas.{selects_meta}
use Rattle.rr_store.proofs.LookLemmas.{plain_of, shown_of}
use Rattle.rr_store.proofs.CauseLemmas.{select_meta_told}
use Rattle.rr_store.proofs.FailureLemmas.{asks_fail}
use Rattle.rr_store.proofs.row_reading.meta_rows.Goals as goal

pub returns : goal.returns
returns g c over =
    let old = state g.S.Store c.args.conn.now in
    let new = state g.S.Store c.look.new.conn in
    let looks : Looks g.S.Store c.args.conn.now c.look.new.conn c.look.result =
    c.look.ensures.looks (λ clean. plain_of c.args.conn.now.schema select_meta _ select_meta_is
    (over clean)) in
    record {
      looks = looks;
      found = λ clean.
          let tables = over (omega (arith, clean, looks.rests.crash.clean)) in
          shown_of c.look.result _ _ _ old new _ (c.look.ensures.shown clean)
          (λ rows h. selects_meta old new tables rows.items h);
      cause = asks_fail g.S.Store select_meta [] select_meta_told c.args.conn.now
          c.look.new.conn c.look.result over looks.rests.crash
          c.look.ensures.refused;
    }
