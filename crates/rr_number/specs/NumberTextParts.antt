-- Text that is appended to a printed number: no rule of RPSL stands here.
use Rattle.std.specs.Prelude.{◌≡◌, ℕ, ◌+◌, ◌≤◌, List, ◌++◌, length}

-- a text of at most so many bytes was appended
pub record Appends (most : ℕ) (text old new : List ℕ) : Type 0 where
  pub value : new ≡ old ++ text
  pub short : length new ≤ length old + most
