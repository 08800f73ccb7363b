use Rattle.std.proofs.Common.{[], ◌∷◌}
use Rattle.rr_store.specs.Entries.{IsAdded}
use Rattle.rr_store.proofs.KeptLemmas.{added_told, kept_by}
use Rattle.rr_store.specs.Calls.{Transacts}
use Rattle.rr_store.proofs.CommitLemmas.{writes_as}
use Rattle.rr_store.specs.Entries.{entry_of}
use Rattle.rr_store.specs.Adding.{AddsTo}
use Rattle.rr_store.proofs.AddLemmas.{adds}
use Rattle.rr_store.proofs.store.Store.add_rows_of.Goals as goal

pub invariant_of-self : goal.invariant_of-self
invariant_of-self g c =
    kept_by g.S.Store (IsAdded (c.in_ok-entry.entry ∷ [])) c.self.inside.conn
    c.insert_entry.new.conn c.insert_entry.result c.self.invariant c.insert_entry.ensures
    (λ held added. added_told c.args.object.now _ c.in_ok-entry.ensures.entry
    c.in_ok-entry.ensures.object _ _ held added)

pub returns : goal.returns
returns g c =
    let rows : Transacts g.S.Store (IsAdded (entry_of c.args.object.now ∷ [])) c.args.self.now
    c.insert_entry.new.conn
    c.insert_entry.result = rw (c.self.view_is, c.in_ok-entry.ensures.entry) at
    c.insert_entry.ensures in
    record {
      rows = rows;
      map = writes_as g.S.Store _ _ (IsAdded (entry_of c.args.object.now ∷ []))
          (AddsTo c.args.object.now.key c.args.object.now) c.insert_entry.result
          (λ clean db. adds c.args.object.now c.in_ok-entry.ensures.formed
          c.in_ok-entry.ensures.object _ db) rows;
    }
