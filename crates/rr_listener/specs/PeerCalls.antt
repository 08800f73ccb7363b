-- What a call to a peer takes of its time, for the contracts of what reads and writes (profile).
use Rattle.std.specs.Prelude.{◌≡◌, ℕ, ◌≤◌, None, IfOk, IsErr, IsSome, Result}
use Rattle.std.specs.Duration.{as_nanos}
use Rattle.std.specs.Option.{option_map}
use Rattle.rr_listener.specs.declared.deadline.Deadline.{Deadline}
use Rattle.rr_listener.specs.ServingTimes.{next_wait}

-- so many nanoseconds are taken now, and the timeout stays (profile)
pub record TakesUp (nanos : ℕ) (before after : Deadline) : Type 0 where
  pub taken : as_nanos after.taken ≡ nanos
  pub timeout : after.timeout ≡ before.timeout

-- if it did not fail, at most so many bytes passed; in any case none of the time that was taken is
-- given back (profile)
pub record SpendsTime {E : Type 0} (room : ℕ) (before after : Deadline) (result : Result ℕ E)
    : Type 0 where
  pub bound : IfOk result (λ count. count ≤ room)
  pub spends : as_nanos before.taken ≤ as_nanos after.taken

-- one call to a peer that is given so many seconds in all: if these were over, it failed and the
-- deadline stayed; otherwise its timeout is `next_wait`. If it did not fail, at most so many bytes
-- passed; in any case none of the time that was taken is given back (profile)
pub record SpendsCall {E : Type 0} (seconds room : ℕ) (before after : Deadline)
    (result : Result ℕ E) : Type 0 where
  pub over : next_wait seconds (as_nanos before.taken) ≡ None → IsErr result × (after ≡ before)
  pub waits : IsSome (next_wait seconds (as_nanos before.taken))
      → option_map as_nanos after.timeout ≡ next_wait seconds (as_nanos before.taken)
  pub time : SpendsTime room before after result
