-- The line that says a fault on standard error, for the contracts of `ProgramFault` and of what the
-- faults of commands name (profile).
use Rattle.std.specs.Prelude.{◌≡◌, ◌⊎◌, ℕ, ◌==◌, ◌||◌, nat_lt, List, [], ◌++◌, map, Option}
use Rattle.std.specs.Prelude.{None, Some, codes}
use Rattle.std.specs.Prelude.{IsTrue, decimal, string_bytes, if◌then◌else◌}
use Rattle.std.specs.Option.{option_and_then}
use Rattle.rr_commands.specs.Causes.{number_of}
use Rattle.rr_commands.specs.Shown.{needs_no_escape}
use Rattle.rr_commands.specs.Troubles.{cause_words, place_of, trouble_cause, trouble_number}
use Rattle.rr_commands.specs.Words.{after_number, before_cause, before_number}
use Rattle.rr_commands.specs.declared.cause.Cause.{Cause}
use Rattle.rr_commands.specs.declared.command_fault.About.{About}
use Rattle.rr_commands.specs.declared.command_fault.About.TheVariants.{Nothing, Word, Named}
use Rattle.rr_commands.specs.declared.command_fault.ProgramFault.{ProgramFault}
use Rattle.rr_commands.specs.declared.trouble.TroublePlace.{TroublePlace}
use Rattle.rr_commands.specs.declared.trouble.TroublePlace.TheVariants as place
use Rattle.rr_commands.specs.declared.trouble.Trouble.{Trouble}

-- a byte as it is written on the line: `?` for a control character (profile)
abbrev pub byte_on_line : ℕ → ℕ
byte_on_line b = if nat_lt b 32 || b == 127 then 63 else b

-- the name of what a fault is about, as it is written on the line, and a colon; nothing for what
-- has no name (profile)
abbrev pub name_on_line : About → List ℕ
name_on_line Nothing = []
name_on_line (Word word) = map byte_on_line word.now ++ codes ": "
name_on_line (Named name) = map byte_on_line (string_bytes name) ++ codes ": "

-- the name of the place of a trouble, by the file and the database of the command, as it is written
-- on the line, and a colon. It is nothing for a place that has no name (profile)
abbrev pub place_on_line : TroublePlace → List ℕ → List ℕ → List ℕ
place_on_line place.Nothing file database = []
place_on_line place.Database file database = map byte_on_line database ++ codes ": "
place_on_line place.File file database = map byte_on_line file ++ codes ": "
place_on_line place.Output file database = map byte_on_line (codes "standard output") ++ codes ": "

-- a line may show a text so: as it is, if it needs no escape, and else in any way (profile)
abbrev pub IsShownAs : List ℕ → List ℕ → Type 0
IsShownAs text line = IsTrue (needs_no_escape text) → line ≡ text

-- a text for the file or database at a path, in which this was found. It is the path as it is, or
-- the path as a line shows it and what was found (profile)
abbrev pub NamesPath : List ℕ → List ℕ → List ℕ → Type 0
NamesPath path found text =
    (text ≡ path) ⊎ ((start : List ℕ) × IsShownAs path start × (text ≡ start ++ found))

-- a fault about this, with this trouble, where reading or printing failed for this cause
abbrev pub fault_about : About → Trouble → Cause → ProgramFault
fault_about about trouble stream = record { about = about; trouble = trouble; stream = stream }

-- a fault shows this of what it is about, on its line (profile)
abbrev pub ShowsOnLine : List ℕ → ProgramFault → Type 0
ShowsOnLine name fault = name_on_line fault.about ≡ name

-- a fault with this trouble, of which this is true (profile)
pub record HasTrouble (told : Trouble) (holds : ProgramFault → Type 0) (fault : ProgramFault)
    : Type 0 where
  pub trouble : fault.trouble ≡ told
  pub shows : holds fault

-- what a fault is about is legible: as it was, but a word as a line shows it or as it was given
-- (profile)
abbrev pub IsLegible : About → About → Type 0
IsLegible Nothing after = after ≡ Nothing
IsLegible (Named name) after = after ≡ Named name
IsLegible (Word word) Nothing = ⊥
IsLegible (Word word) (Word after) = after ≡ word
IsLegible (Word word) (Named name) = IsShownAs word.now (string_bytes name)

-- a fault of a command shows the place of its trouble: the file that it reads, standard output,
-- nothing, or a text for the database. The database is at this path, and this was found in it
-- (profile)
abbrev pub IsAbout : List ℕ → List ℕ → List ℕ → ProgramFault → Type 0
IsAbout file path found fault =
    (database : List ℕ)
    × NamesPath path found database
    × ShowsOnLine (place_on_line (place_of fault.trouble) file database) fault

-- a fault shows a file, and may show where in it (profile)
pub record ShowsFile (file : List ℕ) (fault : ProgramFault) : Type 0 where
  pub found : List ℕ
  pub text : List ℕ
  pub names : NamesPath file found text
  pub shows : ShowsOnLine (place_on_line place.File text []) fault

-- a fault with trouble that is about a file shows this file, and may show where in it (profile)
abbrev pub IsInFile : List ℕ → ProgramFault → Type 0
IsInFile file fault = (place_of fault.trouble ≡ place.File) × ShowsFile file fault

-- a fault of a command that loads this file shows the place of its trouble; if that is the file, it
-- may show where in it (profile)
abbrev pub IsAboutDump : List ℕ → List ℕ → List ℕ → ProgramFault → Type 0
IsAboutDump file path found fault = IsAbout file path found fault ⊎ IsInFile file fault

-- a number in decimal digits, or nothing (profile)
abbrev pub number_text : Option ℕ → List ℕ
number_text None = []
number_text (Some number) = decimal number

-- what went wrong, to the end of the line: words, the cause and its number, words, the number of
-- the trouble, words, and an LF. `stream` is why reading or printing failed (profile)
unfoldable pub trouble_text : Trouble → Cause → List ℕ
trouble_text trouble stream =
    before_cause trouble ++ (cause_words trouble (trouble_cause trouble stream)
    ++ (number_text (option_and_then number_of (trouble_cause trouble stream))
    ++ (before_number trouble
    ++ (number_text (trouble_number trouble) ++ (after_number trouble ++ codes "\n")))))

-- the line that says a fault: the program's name, what the fault is about, and what went wrong
-- (profile)
unfoldable pub fault_line : About → Trouble → Cause → List ℕ
fault_line about trouble stream =
    codes "irrdesk: " ++ (name_on_line about ++ trouble_text trouble stream)
