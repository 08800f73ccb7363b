use Rattle.std.proofs.Common.{rules}
use Rattle.rr_store.specs.Entries.{IsTakenOut}
use Rattle.rr_store.proofs.ObjectRows.{taken_held}
use Rattle.rr_store.proofs.KeptLemmas.{kept_by}
use Rattle.rr_store.specs.Calls.{Transacts}
use Rattle.rr_store.proofs.CommitLemmas.{writes_as}
use Rattle.rr_object.specs.Classes.{class_number}
use Rattle.rr_object.specs.Keys.{class_of}
use Rattle.rr_object.specs.KeyTexts.{key_bytes}
use Rattle.rr_store.specs.Maps.{TakesOut}
use Rattle.rr_store.proofs.MapRows.{takes}
use Rattle.rr_store.proofs.store.Store.remove_rows_of.Goals as goal

pub invariant_of-self : goal.invariant_of-self
invariant_of-self g c =
    kept_by g.S.Store (IsTakenOut c.number-class.result c.deref.result.now) c.self.inside.conn
    c.remove_entry.new.conn c.remove_entry.result c.self.invariant c.remove_entry.ensures
    (λ held taken. taken_held _ _ _ _ held taken)

pub returns : goal.returns
returns g c =
    let key = c.args.key.now in
    let rows : Transacts g.S.Store (IsTakenOut (class_number (class_of key)) (key_bytes key))
    c.args.self.now c.remove_entry.new.conn c.remove_entry.result = search rules in
    record {
      rows = rows;
      map = writes_as g.S.Store _ _ (IsTakenOut (class_number (class_of key)) (key_bytes key))
          (TakesOut key) c.remove_entry.result
          (λ clean db. takes key c.in_ok-bytes.ensures.parts _ db) rows;
    }
