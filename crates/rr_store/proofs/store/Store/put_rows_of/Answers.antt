use Rattle.rr_store.specs.Entries.{IsPut}
use Rattle.rr_store.proofs.KeptLemmas.{kept_by, put_told}
use Rattle.rr_store.specs.Calls.{Transacts}
use Rattle.rr_store.proofs.CommitLemmas.{writes_as}
use Rattle.rr_store.specs.Entries.{entry_of}
use Rattle.rr_store.specs.Maps.{Puts}
use Rattle.rr_store.proofs.MapRows.{puts}
use Rattle.rr_store.proofs.store.Store.put_rows_of.Goals as goal

pub invariant_of-self : goal.invariant_of-self
invariant_of-self g c =
    kept_by g.S.Store (IsPut c.in_ok-entry.entry) c.self.inside.conn c.put_entry.new.conn
    c.put_entry.result c.self.invariant c.put_entry.ensures
    (λ held put. put_told c.args.object.now _ c.in_ok-entry.ensures.entry
    c.in_ok-entry.ensures.object _ _ held put)

pub returns : goal.returns
returns g c =
    let rows : Transacts g.S.Store (IsPut (entry_of c.args.object.now)) c.args.self.now
    c.put_entry.new.conn
    c.put_entry.result = rw (c.self.view_is, c.in_ok-entry.ensures.entry) at c.put_entry.ensures in
    record {
      rows = rows;
      map = writes_as g.S.Store _ _ (IsPut (entry_of c.args.object.now))
          (Puts c.args.object.now.key c.args.object.now) c.put_entry.result
          (λ clean db. puts c.args.object.now c.in_ok-entry.ensures.formed
          c.in_ok-entry.ensures.object _ db) rows;
    }
