-- What calls do with the network, for the contracts of the trait `Network` and of the commands that
-- use it (profile).
use Rattle.std.specs.Prelude.{ℕ, List, Option, Result}
use Rattle.std.specs.declared.io.Error.{Error}
use Rattle.rr_desk.specs.Turns.{Serving, Tally}
use Rattle.rr_commands.specs.declared.cause.Cause.{Cause}

-- what calls do with the network (profile). `listens`: a port is listened on, by what counts and
-- tells this, or is refused for a cause. `asks`: a peer that asks this is to be given these bytes,
-- `None` if it does not tell them, or nobody could ask, by an error. `closes`: the connection of a
-- peer is closed after so many reads that failed
pub record NetworkCalls : Type 1 where
  pub listens : ℕ → Result Tally Cause → Type 0
  pub asks : List ℕ → Result (Option (List ℕ)) Error → Type 0
  pub closes : ℕ → Type 0

-- what calls do with the network, and what serving a connection does: what `serve` and `probe` need
-- besides files and databases (profile)
pub record Means : Type 1 where
  pub network : NetworkCalls
  pub serves : Serving

-- what calls do with the network, and what serving a connection does, as one
abbrev pub means : NetworkCalls → Serving → Means
means network serves = record { network = network; serves = serves }
