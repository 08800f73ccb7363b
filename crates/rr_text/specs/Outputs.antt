-- Texts that are added to an output in memory: for `print_onto_with_values` and what prints.
use Rattle.std.specs.Prelude.{◌≡◌, ℕ, List, ◌++◌, Result, OnOk, OnErr}
use Rattle.std.specs.Io.{StartsWith}

-- these bytes are added at the end of an output in memory. Where memory runs out, bytes may have
-- been added, and the output still begins with what it had (profile)
pub record MayAdd {T E : Type 0} (bytes old new : List ℕ) (result : Result T E) : Type 0 where
  pub ok : OnOk result (new ≡ old ++ bytes)
  pub err : OnErr result (StartsWith new old)
