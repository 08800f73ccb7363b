-- What a call gives of a value, and what is true of the value: for calls that show what is inside.
use Rattle.std.specs.Prelude.{◌≡◌}

-- A call gives a value or a part of it, as it is; and the value has the property that each value of
-- its type has (profile).
pub record Shows {V A : Type 0} (Holds : V → Type 0) (whole : V) (part shown : A) : Type 0 where
  pub value : shown ≡ part
  pub holds : Holds whole
