-- What `irrdesk dump` does, for the contracts of `dump` and `dump_to` (profile).
use Rattle.std.specs.Prelude.{◌≡◌, ℕ, Bool, List, Ok, Err}
use Rattle.rr_desk.specs.declared.desk.Desk.{Desk}
use Rattle.rr_io.specs.Sending.{Takes}
use Rattle.rr_io.specs.Told.{Told}
use Rattle.rr_answer.specs.Dumps.{dump}
use Rattle.rr_desk.specs.Dumping.{IsCutShort}
use Rattle.rr_commands.specs.Commands.{Act, ActsBySettings, AtDesk, CommandEnd, ProgramEnd}
use Rattle.rr_commands.specs.Faults.{IsAbout}
use Rattle.rr_commands.specs.Worlds.{Deed, Ports}
use Rattle.rr_commands.specs.declared.trouble.Trouble.TheVariants.{Dumping}

-- the bytes of a dump were written, and the status is 0. Or it was cut short: a write failed or
-- memory ran out, and what was written is the beginning and not all (profile)
abbrev pub HasDumped : List ℕ → Told → Told → CommandEnd → Type 0
HasDumped bytes old new (Ok status) = (status ≡ 0) × Takes old new bytes
HasDumped bytes old new (Err (Dumping fault)) = IsCutShort bytes old new fault
HasDumped bytes old new (Err _) = ⊥

-- what `irrdesk dump` does at a desk, which stays as it was: the dump of its registry is full if
-- that is asked for (profile)
abbrev pub DumpsDesk : {S : Type 0} → Bool → Act (Desk S)
DumpsDesk full done =
    (done.after.has ≡ done.before.has)
    × HasDumped (dump full done.before.has.stock.registry)
    done.before.output done.after.output done.ended

-- what `irrdesk dump` does. If its settings file gives no settings, or these open no desk, nothing
-- is printed, and the fault says why. Otherwise the registry of the desk is dumped (`DumpsDesk`),
-- and its database is closed. A fault shows the place of its trouble (profile)
abbrev pub DumpsBy : {D S : Type 0} → Ports D S → List ℕ → Bool → Deed D ProgramEnd → Type 0
DumpsBy by file full =
    ActsBySettings by.files file (IsAbout file) (AtDesk by.stores (DumpsDesk full))
