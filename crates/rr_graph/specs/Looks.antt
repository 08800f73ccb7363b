-- What looks at nodes find: for `reach` and `gather`, and for the expansions of `rr_sets`.
use Rattle.std.specs.Prelude.{◌≡◌, ℕ, ◌<◌, List, length, get_or}

-- The looks are those at the nodes, each at the place of its node. (profile)
pub record AreLooks {N K : Type 0} (Shows : N → K → Type 0) (nodes : List N) (looks : List K)
    : Type 0 where
  pub long : length looks ≡ length nodes
  pub each : (place : ℕ) (node : N) (look : K) → place < length nodes
      → Shows (get_or nodes place node) (get_or looks place look)
