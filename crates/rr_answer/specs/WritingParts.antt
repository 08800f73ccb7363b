-- What private functions that write answers promise each other. No public clause cites these.
use Rattle.std.specs.Prelude.{ℕ, ◌<◌, ◌≤◌, List, Result, Ok, Err, length, take}
use Rattle.std.specs.List.{flat_map}
use Rattle.rr_io.specs.Told.{Told}
use Rattle.rr_io.specs.Sending.{Takes, TakesPrefix}

-- the first parts were taken, so many and at least one
pub record TakesParts {X : Type 0} (bytes : X → List ℕ) (parts : List X) (old new : Told)
    (count : ℕ) : Type 0 where
  pub some : 0 < count
  pub within : count ≤ length parts
  pub takes : Takes old new (flat_map bytes (take count parts))

-- the first parts were taken, or a call failed before all were
abbrev pub WritesSome : {X E : Type 0} → (X → List ℕ) → List X → Told → Told → Result ℕ E
    → Type 0
WritesSome bytes parts old new (Ok count) = TakesParts bytes parts old new count
WritesSome bytes parts old new (Err fault) = TakesPrefix old new (flat_map bytes parts)
