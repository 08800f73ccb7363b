-- What a reader gives, and how a reading ends: for `Reader` and all that reads a text. What is said
-- of a reader's bytes holds where it tells them.
use Rattle.std.specs.Prelude.{◌≡◌, ℕ, ◌+◌, ◌<◌, ◌≤◌, List, []}
use Rattle.std.specs.Prelude.{◌++◌, length, take, Some, Result, Ok, Err}
use Rattle.rr_io.specs.Told.{Told, Counts, Fails}
use Rattle.rr_io.specs.declared.receiving.ReadEnd.{ReadEnd}
use Rattle.rr_io.specs.declared.receiving.ReadEnd.TheVariants.{Whole, Broken, Endless}

-- these bytes were given, in this order, and no call failed; what stands beside stays
pub record Gives (old new : Told) (bytes : List ℕ) : Type 0 where
  pub consumed : (xs : List ℕ) → old.bytes ≡ Some xs
      → (rest : List ℕ) × (new.bytes ≡ Some rest) × (xs ≡ bytes ++ rest)
  pub no_fault : new.faults ≡ old.faults
  pub aside : new.aside ≡ old.aside

-- so many reads were counted, which did not fail (profile)
abbrev pub CountsReads : Told → Told → ℕ → Type 0
CountsReads old new count = Counts old.reads new.reads count

-- a reader has no byte left
pub record IsSpent (told : Told) : Type 0 where
  pub none_left : (xs : List ℕ) → told.bytes ≡ Some xs → xs ≡ []

-- one read, which was counted, gave so many bytes into the beginning of a buffer: none only at the
-- end, or where the buffer is empty (profile)
pub record GivesInto (old new : Told) (buf : List ℕ) (count : ℕ) : Type 0 where
  pub bound : count ≤ length buf
  pub gives : Gives old new (take count buf)
  pub spent : count ≡ 0 → 0 < length buf → IsSpent new
  pub counts : CountsReads old new 1

-- one read into a buffer: it gave bytes where it is `Ok`, and failed where it is `Err` (profile)
abbrev pub ReadsOnce : {E : Type 0} → Told → Told → List ℕ → Result ℕ E → Type 0
ReadsOnce old new buf (Ok count) = GivesInto old new buf count
ReadsOnce old new buf (Err _) = Fails old new

-- these bytes were given, and then a call failed
pub record BreaksOff (old new : Told) (bytes : List ℕ) : Type 0 where
  pub between : Told
  pub gives : Gives old between bytes
  pub fails : Fails between new

-- how many reads a reading counts before it ends as endless (profile)
abbrev pub read_limit : ℕ
read_limit = 16777216

-- how many bytes a read of a text asks for at most (profile)
abbrev pub read_size : ℕ
read_size = 4096

-- the reading of these bytes, by how it ended: with no byte left after at most 16,777,216 reads, or
-- by a failed call after fewer reads. An endless one ended after exactly 16,777,216 reads, which
-- gave at least as many bytes, and without a fault (profile)
abbrev pub Reads : Told → Told → List ℕ → ReadEnd → Type 0
Reads old new bytes Whole =
    Gives old new bytes × IsSpent new × (new.reads ≤ old.reads + read_limit)
Reads old new bytes Broken = BreaksOff old new bytes × (new.reads < old.reads + read_limit)
Reads old new bytes Endless =
    Gives old new bytes × (read_limit ≤ length bytes) × CountsReads old new read_limit
