-- The body of a request, and how `read_body` reads it.
use Rattle.std.specs.Prelude.{◌≡◌, ℕ, ◌-◌, ◌<◌, List, ◌++◌, length}
use Rattle.std.specs.Prelude.{take}
use Rattle.rr_io.specs.Told.{Told}
use Rattle.rr_io.specs.Receiving.{BreaksOff, Gives, IsSpent}
use Rattle.rr_http.specs.declared.body_reading.BodyEnd.{BodyEnd}
use Rattle.rr_http.specs.declared.body_reading.BodyEnd.TheVariants.{Whole, Short, Broken}

-- a body of so many bytes begins with what came with the head, as far as that is its own; the rest
-- of it was read, and no byte after it: it is whole, or it is short because the input ended, or
-- because a read failed (RFC 9112, 6.2)
abbrev pub ReadsBody : Told → Told → List ℕ → ℕ → List ℕ → BodyEnd → Type 0
ReadsBody old new buffered size body Whole =
    (more : List ℕ) × Gives old new more × (body ≡ take size (buffered ++ more))
    × (length body ≡ size) × (length more ≡ size - length buffered)
ReadsBody old new buffered size body Short =
    (more : List ℕ) × Gives old new more × IsSpent new × (body ≡ buffered ++ more)
    × (length body < size)
ReadsBody old new buffered size body Broken =
    (more : List ℕ) × BreaksOff old new more × (body ≡ buffered ++ more)
    × (length body < size)
