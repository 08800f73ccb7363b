-- What an implementation of `Files` says of its calls, for the contracts of this trait (profile).
use Rattle.std.specs.Prelude.{ℕ, List, Option, Result}
use Rattle.std.specs.declared.io.Error.{Error}

-- what an implementation says of its calls, in two statements of its own; `SystemFiles`, the files
-- of the machine, says nothing. `opens path given`: the file at the path was opened, and is to be
-- read as these bytes, if they are known; or it was refused by this error. `closes path failed`: a
-- file that was opened at the path was closed after so many failed reads (profile)
pub record FileCalls : Type 1 where
  pub opens : List ℕ → Result (Option (List ℕ)) Error → Type 0
  pub closes : List ℕ → ℕ → Type 0
