-- What a reader or a writer tells of itself: for every contract that reads or writes.
use Rattle.std.specs.Prelude.{◌≡◌, ℕ, ◌+◌, ◌-◌, ◌^◌, ◌<◌, ◌≤◌, List}
use Rattle.std.specs.Prelude.{Option, None, Some, max}

-- what stands beside a reader or a writer that is one side of a connection: what its other side
-- tells
pub record Beside : Type 0 where
  pub bytes : Option (List ℕ)
  pub faults : ℕ
  pub reads : ℕ

-- `bytes` are those that a reader has left, or that a writer has taken: None where it does not say,
-- as over a file or a socket. `faults` counts the failed reads of a reader or the failed writes of
-- a writer, and `reads` a reader's reads that did not fail: a writer has none. Each count stays at
-- 2^64 - 1 once it is there (profile). `aside` is what stands beside it, which its calls leave
-- alone.
pub record Told : Type 0 where
  pub bytes : Option (List ℕ)
  pub faults : ℕ
  pub reads : ℕ
  pub aside : Beside

-- nothing stands beside it
abbrev pub alone : Beside
alone = record { bytes = None; faults = 0; reads = 0 }

-- what one side of a connection tells, as it stands beside the other side
abbrev pub beside : Told → Beside
beside told = record { bytes = told.bytes; faults = told.faults; reads = told.reads }

-- what one side of a connection tells, with this beside it
abbrev pub set_beside : Beside → Told → Told
set_beside other told = record told { aside = other }

-- a count grew by so many, up to 2^64 - 1, where it stays (profile)
pub record Counts (before after many : ℕ) : Type 0 where
  pub exact : before + many < 2 ^ 64 → after ≡ before + many
  pub full : 2 ^ 64 ≤ before + many → after ≡ max before (2 ^ 64 - 1)

-- a call failed: no byte passed in it, and it was counted as one fault and as no read (profile: an
-- error of any kind, Interrupted too). What stands beside stays
pub record Fails (old new : Told) : Type 0 where
  pub bytes_stay : (xs : List ℕ) → old.bytes ≡ Some xs → new.bytes ≡ Some xs
  pub counted : Counts old.faults new.faults 1
  pub no_read : new.reads ≡ old.reads
  pub aside : new.aside ≡ old.aside
