use Rattle.std.proofs.Common.{rules, ◌≡◌, w64, pos, [], ◌∷◌}
use Rattle.sqlite_value.specs.declared.value.Value.TheVariants.{Int, Text}
use Rattle.std.proofs.lemmas.Int.{to_z-of_z}
use mir.Val.{to_z, of_z}
use Rattle.sqlite.specs.Held.{state}
use Rattle.rr_store.specs.Texts.{delete_object}
use Rattle.rr_store.proofs.StatementLemmas.{deletes_object}
use Rattle.rr_store.proofs.StepLemmas.{statement_steps}
use Rattle.rr_store.proofs.statements.remove_object.Goals as goal

pub returns : goal.returns
returns g c = record {
  same_reference = c.execute.ensures.same_reference;
  step =
      let same : to_z w64 (of_z w64 (pos c.args.class)) ≡ pos c.args.class =
      to_z-of_z w64 (pos c.args.class) (search rules) in
      let old = c.args.tx.now.conn.now in
      let new = c.execute.new.self.conn.now in
      statement_steps g.S.Store old new delete_object (Int (pos c.args.class) ∷ Text c.args.key.now
      ∷ []) c.execute.result c.execute.ensures.ended
      (λ clean on. (rw (c.from.ensures, same) at (c.execute.ensures.runs clean on)))
      c.execute.ensures.survives _ _
      (λ clean count ran seen. deletes_object c.args.class c.args.key.now (state g.S.Store old)
      (state g.S.Store new) seen count ran);
}
