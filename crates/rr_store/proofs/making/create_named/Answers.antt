use Rattle.std.proofs.Common.{[]}
use Rattle.sqlite.specs.Held.{state}
use Rattle.rr_store.specs.Texts.{create_named}
use Rattle.rr_store.proofs.CreateLemmas.{creates_named}
use Rattle.rr_store.proofs.StepLemmas.{statement_steps}
use Rattle.rr_store.proofs.making.create_named.Goals as goal

pub returns : goal.returns
returns g c = record {
  same_reference = c.execute.ensures.same_reference;
  step =
      let old = c.args.tx.now.conn.now in
      let new = c.execute.new.self.conn.now in
      statement_steps g.S.Store old new create_named [] c.execute.result c.execute.ensures.ended
      c.execute.ensures.runs c.execute.ensures.survives _ _
      (λ clean count ran seen. creates_named (state g.S.Store old) (state g.S.Store new)
      seen count ran);
}
