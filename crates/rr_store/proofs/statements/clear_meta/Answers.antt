use Rattle.std.proofs.Common.{[]}
use Rattle.sqlite.specs.Held.{state}
use Rattle.rr_store.specs.Texts.{clear_meta}
use Rattle.rr_store.proofs.StatementLemmas.{clears_meta}
use Rattle.rr_store.proofs.StepLemmas.{statement_steps}
use Rattle.rr_store.proofs.statements.clear_meta.Goals as goal

pub returns : goal.returns
returns g c = record {
  same_reference = c.execute.ensures.same_reference;
  step =
      let old = c.args.tx.now.conn.now in
      let new = c.execute.new.self.conn.now in
      statement_steps g.S.Store old new clear_meta ([]) c.execute.result c.execute.ensures.ended
      c.execute.ensures.runs c.execute.ensures.survives _ _
      (λ clean count ran seen. clears_meta (state g.S.Store old) (state g.S.Store new)
      seen count ran);
}
