-- What a writer takes: for `Writer` and all that is printed to one. What is said of a writer's
-- bytes holds where it tells them.
use Rattle.std.specs.Prelude.{◌≡◌, ℕ, ◌<◌, ◌≤◌, List, ◌++◌, length, take, Result, Ok, Err}
use Rattle.std.specs.Prelude.{Some, ◌⊎◌}
use Rattle.rr_io.specs.Told.{Told, Fails}

-- these bytes were taken, in this order, and no call failed or was counted as a read; what stands
-- beside stays
pub record Takes (old new : Told) (bytes : List ℕ) : Type 0 where
  pub appended : (xs : List ℕ) → old.bytes ≡ Some xs → new.bytes ≡ Some (xs ++ bytes)
  pub no_fault : new.faults ≡ old.faults
  pub no_read : new.reads ≡ old.reads
  pub aside : new.aside ≡ old.aside

-- so many bytes were taken from the beginning of these: none only where there are none (profile)
pub record TakesFirst (old new : Told) (bytes : List ℕ) (count : ℕ) : Type 0 where
  pub bound : count ≤ length bytes
  pub some : 0 < length bytes → 0 < count
  pub takes : Takes old new (take count bytes)

-- one write of these bytes: it took some where it is `Ok`, and failed where it is `Err` (profile)
abbrev pub WritesOnce : {E : Type 0} → Told → Told → List ℕ → Result ℕ E → Type 0
WritesOnce old new bytes (Ok count) = TakesFirst old new bytes count
WritesOnce old new bytes (Err _) = Fails old new

-- the beginning of these bytes was taken, and not all of them: then a call failed
pub record TakesPrefix (old new : Told) (bytes : List ℕ) : Type 0 where
  pub prefix : List ℕ
  pub rest : List ℕ
  pub whole : bytes ≡ prefix ++ rest
  pub some_left : 0 < length rest
  pub between : Told
  pub takes : Takes old between prefix
  pub fails : Fails between new

-- all of these bytes were taken, or the beginning of them, and not all, before a call failed
abbrev pub TakesSome : Told → Told → List ℕ → Type 0
TakesSome old new bytes = Takes old new bytes ⊎ TakesPrefix old new bytes

-- the writing of these bytes: where it is `Ok`, all of them were taken; where it is `Err`, the
-- beginning of them and not all, and then a call failed
abbrev pub Writes : {T E : Type 0} → Told → Told → List ℕ → Result T E → Type 0
Writes old new bytes (Ok _) = Takes old new bytes
Writes old new bytes (Err _) = TakesPrefix old new bytes
