-- That a connection lasts where nothing is done, and through what is done after something else:
-- proofs that ghost items of `src/stock.rt` and of `rr_http` name.
use Rattle.std.specs.Prelude.{refl}
use Rattle.std.proofs.Common.{arith, inl}
use Rattle.sqlite_trees.specs.declared.store.Store as store
use Rattle.sqlite.specs.Held.{state}
use Rattle.sqlite.specs.State.{State, HasCleanDisk}
use Rattle.sqlite.proofs.StateLemmas.{survives_then}
use Rattle.rr_store.proofs.OtherLemmas.{others_itself, others_then}
use Rattle.rr_desk.specs.Stocks.{DatabaseLasts, StockParts, stock_ledger}

-- a connection lasts where nothing is done
pub database_still : (s : State) → DatabaseLasts s s
database_still s = record {
  survives = record {
    clean = omega arith;
    shield = λ shielded. shielded;
    counts = omega arith;
    limit = refl;
    closes = λ clean on. inl on;
    crash = λ clean trees may. inl may;
  };
  was_open = λ clean on. on;
  others = λ clean on. others_itself s.now;
}

-- what lasts through something, and through what is done after it, lasts through both
pub database_on : (a b c : State) → DatabaseLasts a b → DatabaseLasts b c
    → DatabaseLasts a c
database_on a b c first second =
    let earlier : HasCleanDisk c → HasCleanDisk b =
    λ clean. omega (arith, second.survives.clean) in
    record {
      survives = survives_then a b c (λ trees. Unit {0}) (λ trees. Unit {0}) (λ trees. Unit {0})
          (λ clean trees made. tt) (λ clean trees made. tt) first.survives second.survives;
      was_open = λ clean on. first.was_open (earlier clean) (second.was_open clean on);
      others = λ clean on. others_then a.now b.now c.now
          (first.others (earlier clean) (second.was_open clean on)) (second.others clean on);
    }

-- what lasts of a stock lasts where nothing is decided
pub stock_still : {S : Type 0} (g : store.Ghosts S) (s : StockParts S) → (stock_ledger g).Lasts s s
stock_still g s = database_still (state g s.store)

-- what lasts of a stock through some items, and through those after them, lasts through all
pub stock_on : {S : Type 0} (g : store.Ghosts S) (before between after : StockParts S) →
    (stock_ledger g).Lasts before between → (stock_ledger g).Lasts between after
    → (stock_ledger g).Lasts before after
stock_on g before between after first second =
    database_on (state g before.store) (state g between.store) (state g after.store) first second
