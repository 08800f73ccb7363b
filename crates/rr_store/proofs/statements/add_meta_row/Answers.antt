use Rattle.std.proofs.Common.{[], ◌∷◌}
use Rattle.sqlite_value.specs.declared.value.Value.TheVariants.{Text}
use Rattle.sqlite.specs.Held.{state}
use Rattle.rr_store.specs.Texts.{insert_meta}
use Rattle.rr_store.proofs.StatementLemmas.{inserts_meta}
use Rattle.rr_store.proofs.StepLemmas.{statement_steps}
use Rattle.rr_store.proofs.statements.add_meta_row.Goals as goal

pub returns : goal.returns
returns g c = record {
  same_reference = c.execute.ensures.same_reference;
  step =
      let old = c.args.tx.now.conn.now in
      let new = c.execute.new.self.conn.now in
      statement_steps g.S.Store old new insert_meta (Text c.args.name.now ∷ Text c.args.value.now
      ∷ []) c.execute.result c.execute.ensures.ended c.execute.ensures.runs
      c.execute.ensures.survives _ _
      (λ clean count ran seen. inserts_meta c.args.name.now c.args.value.now (state g.S.Store old)
      (state g.S.Store new) seen count ran);
}
