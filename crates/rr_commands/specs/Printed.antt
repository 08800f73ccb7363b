-- What commands print of what they did, for the contracts of `print` and of each command (profile).
use Rattle.std.specs.Prelude.{◌≡◌, ℕ, List, Ok, Err}
use Rattle.rr_io.specs.Sending.{Takes, TakesPrefix}
use Rattle.rr_io.specs.Told.{Told}
use Rattle.rr_commands.specs.Commands.{CommandEnd, ProgramEnd}
use Rattle.rr_commands.specs.Worlds.{Deed}
use Rattle.rr_commands.specs.declared.trouble.Trouble.TheVariants.{Unwritten}

-- a text was written, and the status is 0. Or it could not be written whole: its beginning, and not
-- all, was written before a write failed, which is the trouble (profile)
abbrev pub Tells : List ℕ → Told → Told → CommandEnd → Type 0
Tells text old new (Ok status) = (status ≡ 0) × Takes old new text
Tells text old new (Err fault) = (fault ≡ Unwritten) × TakesPrefix old new text

-- what was done ends as the writing of a text does: with the status 0 where it was written, or
-- because it could not be written whole (profile)
abbrev pub HasTold : {X : Type 0} → List ℕ → Deed X CommandEnd → Type 0
HasTold text done = Tells text done.before.output done.after.output done.ended

-- a text was printed, and the status of the program is 0. Or the beginning of it, and not all, was
-- printed before a write failed, which is its fault (profile)
abbrev pub Prints : List ℕ → Told → Told → ProgramEnd → Type 0
Prints text old new (Ok status) = (status ≡ 0) × Takes old new text
Prints text old new (Err fault) = (fault.trouble ≡ Unwritten) × TakesPrefix old new text
