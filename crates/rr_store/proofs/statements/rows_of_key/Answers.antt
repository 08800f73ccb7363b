use Rattle.std.proofs.Common.{rules, ◌≡◌, w64, pos, IsTrue, arith}
use Rattle.std.proofs.lemmas.Int.{to_z-of_z}
use mir.Val.{to_z, of_z}
use Rattle.sqlite.specs.Given.{IsPlain}
use Rattle.sqlite.specs.Held.{state}
use Rattle.sqlite.specs.Listing.{understood}
use Rattle.sqlite.specs.State.{HasCleanDisk}
use Rattle.rr_store.specs.Texts.{select_of_key}
use Rattle.rr_store.proofs.TextLemmas.{select_of_key_is}
use Rattle.rr_store.proofs.StatementLemmas.{selects_of_key}
use Rattle.rr_store.proofs.BodyLemmas.{then_ok}
use Rattle.rr_store.proofs.LookLemmas.{asked_keeps, asked_same, asked_step, each_shown, on_each}
use Rattle.rr_store.proofs.LookLemmas.{plain_of, shown_open}
use Rattle.rr_store.proofs.statements.rows_of_key.Goals as goal

pub returns-clause-rows : goal.returns-clause-rows
returns-clause-rows g c clean =
    let same : to_z w64 (of_z w64 (pos c.args.class)) ≡ pos c.args.class =
    to_z-of_z w64 (pos c.args.class) (search rules) in
    let old = state g.S.Store c.args.tx.now.conn.now in
    let new = state g.S.Store c.query_all.new.self.conn.now in
    let shown = rw (c.from.ensures, same) at (c.query_all.ensures.ok clean) in
    each_shown c.query_all.result _ _ _ shown
    (on_each c.query_all.result _ _ shown (λ rows h. shown_open select_of_key _ old new
    rows.items h))
    (λ rows on h. selects_of_key c.args.class c.args.key.now old new
    (c.requires (omega (arith, c.query_all.ensures.survives.clean)) on).has rows.items h)

pub returns-clause-steps : goal.returns-clause-steps
returns-clause-steps g c = record {
  same_reference = c.query_all.ensures.same_reference;
  step =
      let old = state g.S.Store c.args.tx.now.conn.now in
      let new = state g.S.Store c.query_all.new.self.conn.now in
      let plain : HasCleanDisk new → IsTrue old.is_open →
      IsPlain (understood old.now.schema select_of_key) = λ clean on.
      plain_of old.now.schema select_of_key _ select_of_key_is
      (c.requires (omega (arith, clean, c.query_all.ensures.survives.clean)) on).has in
      record {
        made = λ over clean. then_ok c.query_all.result
            (asked_same (λ rows. rows.items) select_of_key _
            old new (plain clean) c.query_all.result (c.query_all.ensures.ok clean))
            (λ same. same.0.now_is);
        goes_on = λ clean. asked_step (λ rows. rows.items) select_of_key _ old new (plain clean)
            c.query_all.result (c.query_all.ensures.ok clean);
        kept = λ clean. asked_keeps (λ rows. rows.items) select_of_key _ old new (plain clean)
            c.query_all.result (c.query_all.ensures.ok clean) (c.query_all.ensures.err clean);
        survives = c.query_all.ensures.survives;
      };
}
