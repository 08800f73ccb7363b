use Rattle.std.proofs.Common.{arith, []}
use Rattle.sqlite.specs.Held.{state}
use Rattle.rr_store.specs.Calls.{Looks}
use Rattle.rr_store.specs.Texts.{object_numbers}
use Rattle.rr_store.proofs.TextLemmas.{object_numbers_is}
use Rattle.rr_store.proofs.StatementLemmas.{numbers_object}
use Rattle.rr_store.proofs.LookLemmas.{plain_of, shown_of}
use Rattle.rr_store.proofs.CauseLemmas.{object_numbers_told}
use Rattle.rr_store.proofs.FailureLemmas.{asks_fail}
use Rattle.rr_store.proofs.row_reading.object_numbers.Goals as goal

pub returns : goal.returns
returns g c over =
    let old = state g.S.Store c.args.conn.now in
    let new = state g.S.Store c.look.new.conn in
    let looks : Looks g.S.Store c.args.conn.now c.look.new.conn c.look.result =
    c.look.ensures.looks (λ clean. plain_of c.args.conn.now.schema object_numbers _
    object_numbers_is
    (over clean)) in
    record {
      looks = looks;
      found = λ clean.
          let tables = over (omega (arith, clean, looks.rests.crash.clean)) in
          shown_of c.look.result _ _ _ old new _ (c.look.ensures.shown clean)
          (λ rows h. numbers_object old new tables rows.items h);
      cause = asks_fail g.S.Store object_numbers [] object_numbers_told
          c.args.conn.now c.look.new.conn c.look.result over looks.rests.crash
          c.look.ensures.refused;
    }
