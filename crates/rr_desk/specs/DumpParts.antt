-- What private functions that read dumps promise each other. No public clause cites these.
use Rattle.std.specs.Prelude.{◌≡◌, ◌⊎◌, ℕ, List, ◌++◌, [], ◌∷◌, Option}
use Rattle.std.specs.Prelude.{Some, None, Result, Ok, Err}
use Rattle.rr_io.specs.Told.{Told}
use Rattle.rr_io.specs.declared.receiving.ReadEnd.TheVariants as end
use Rattle.rr_text.specs.declared.text_fault.TextFault.{TextFault}
use Rattle.rr_text.specs.declared.text_fault.TextFault.TheVariants as text
use Rattle.rr_text.specs.declared.paragraphs.Paragraphs.{Paragraphs}
use Rattle.rr_text.specs.Fields.{Field}
use Rattle.rr_text.specs.ParagraphReaders.{Entry, HasEnded, HasGiven}
use Rattle.rr_desk.specs.Dumps.{objects_from}
use Rattle.rr_desk.specs.declared.dump_read_fault.DumpReadFault.{DumpReadFault}
use Rattle.rr_desk.specs.declared.dump_read_fault.DumpReadFault.TheVariants.{Read, Endless, Text}
use Rattle.rr_desk.specs.declared.dump_read_fault.DumpReadFault.TheVariants.{Object}
use Rattle.rr_desk.specs.declared.dump_read_fault.DumpReadFault.TheVariants.{Memory}

-- what was found of an entry: the entry itself, or that memory ran out
abbrev pub IsEntryOf : Result (List Field) TextFault → Entry → Type 0
IsEntryOf (Ok fields) entry = entry ≡ Ok fields
IsEntryOf (Err fault) entry = (fault ≡ text.Memory) ⊎ (entry ≡ Err fault)

-- one entry more was given
pub record FindsOne (start now : Told) (p : Paragraphs) (given : List Entry)
    (found : Result (List Field) TextFault) : Type 0 where
  pub entry : Entry
  pub is : IsEntryOf found entry
  pub has : HasGiven start now p (given ++ entry ∷ [])

-- one entry more was given, or how the reading ended
abbrev pub FindsEntry : Told → Told → Paragraphs → List Entry
    → Result (Option (Result (List Field) TextFault)) DumpReadFault → Type 0
FindsEntry start now p given (Ok (Some found)) = FindsOne start now p given found
FindsEntry start now p given (Ok None) = HasEnded start now end.Whole given
FindsEntry start now p given (Err Read) = HasEnded start now end.Broken given
FindsEntry start now p given (Err Endless) = HasEnded start now end.Endless given
FindsEntry start now p given (Err (Text n)) = ⊥
FindsEntry start now p given (Err (Object n code)) = ⊥
FindsEntry start now p given (Err Memory) = ⊥

-- the first fault of the entries so far, or that memory ran out
abbrev pub IsFaultSoFar : List ℕ → List Entry → DumpReadFault → Type 0
IsFaultSoFar source given fault = (fault ≡ Memory) ⊎ (objects_from source 1 given ≡ Err fault)
