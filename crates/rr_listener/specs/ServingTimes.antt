-- How long a peer is waited for, for the contracts of `Deadline` and of each call (profile).
use Rattle.std.specs.Prelude.{◌≡◌, ◌⊎◌, ℕ, ◌+◌, ◌-◌, ◌*◌, ◌/◌}
use Rattle.std.specs.Prelude.{◌==◌, true, min, is_some, Option}
use Rattle.std.specs.Prelude.{None, Some}
use Rattle.std.specs.Prelude.{if◌then◌else◌}
use Rattle.std.specs.Duration.{as_nanos}
use Rattle.std.specs.Option.{option_map}
use Rattle.std.specs.declared.time.Duration.{Duration}
use Rattle.rr_listener.specs.declared.deadline.TheConstants.{LONGEST_WAIT}
use Rattle.rr_listener.specs.declared.peer_writer.TheConstants.{BYTES_A_SECOND, REPLY_TIME}

-- a second, in nanoseconds
abbrev pub second : ℕ
second = 1_000_000_000

-- how many nanoseconds a call may wait for a peer that has so many left: these, but at most 10
-- seconds; `None` if none is left (profile)
abbrev pub wait_of : ℕ → Option ℕ
wait_of left = if left == 0 then None else Some (min left (LONGEST_WAIT * second))

-- how many nanoseconds the next call may wait for a peer that has so many seconds in all and took
-- so many nanoseconds. That is what is left, but at most 10 seconds; `None` if nothing is left
-- (profile)
abbrev pub next_wait : ℕ → ℕ → Option ℕ
next_wait seconds taken = wait_of (seconds * second - taken)

-- there is a wait, and it stands as the timeout of the next call: it is to be set, or it was the
-- one set before (profile)
pub record SetsWait (wait before after set : Option ℕ) : Type 0 where
  pub there_is : is_some wait ≡ true
  pub stands : after ≡ wait
  pub is_set : (set ≡ wait) ⊎ ((set ≡ None) × (before ≡ wait))

-- there is a wait, and it stands as the timeout of the next call, of timeouts that are durations
-- (profile)
abbrev pub SetsTimeout : Option ℕ → Option Duration → Option Duration → Option Duration
    → Type 0
SetsTimeout wait before after set =
    SetsWait wait (option_map as_nanos before) (option_map as_nanos after) (option_map as_nanos set)

-- how many seconds a peer is given to take a reply of which so many bytes went out: 60, and one
-- more for each whole 16 KiB (profile)
abbrev pub reply_time : ℕ → ℕ
reply_time written = REPLY_TIME + written / BYTES_A_SECOND
