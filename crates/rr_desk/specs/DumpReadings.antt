-- What the reading of a dump comes to (profile): for `read_dump` and `Desk::load`.
use Rattle.std.specs.Prelude.{◌≡◌, ◌⊎◌, ℕ, List, Result, Ok, Err, MatchResult}
use Rattle.rr_io.specs.Told.{Told}
use Rattle.rr_io.specs.Receiving.{Reads}
use Rattle.rr_io.specs.declared.receiving.ReadEnd.{ReadEnd}
use Rattle.rr_io.specs.declared.receiving.ReadEnd.TheVariants as end
use Rattle.rr_object.specs.Objects.{Obj}
use Rattle.rr_desk.specs.Dumps.{dump_objects}
use Rattle.rr_desk.specs.declared.dump_read_fault.DumpReadFault.{DumpReadFault}
use Rattle.rr_desk.specs.declared.dump_read_fault.DumpReadFault.TheVariants.{Read, Endless, Text}
use Rattle.rr_desk.specs.declared.dump_read_fault.DumpReadFault.TheVariants.{Object}
use Rattle.rr_desk.specs.declared.dump_read_fault.DumpReadFault.TheVariants.{Memory}

-- the dump was read to its end, and its entries are these objects of the source (profile)
pub record HasRead (source : List ℕ) (start now : Told) (objects : List Obj) : Type 0 where
  pub text : List ℕ
  pub reads : Reads start now text end.Whole
  pub are : dump_objects source text ≡ Ok objects

-- the dump was read to its end, and the first of its faults is this (profile)
pub record HasFault (source : List ℕ) (start now : Told) (fault : DumpReadFault) : Type 0 where
  pub text : List ℕ
  pub reads : Reads start now text end.Whole
  pub first : dump_objects source text ≡ Err fault

-- some text was read, and the reading ended so
pub record EndsSo (start now : Told) (ended : ReadEnd) : Type 0 where
  pub text : List ℕ
  pub reads : Reads start now text ended

-- why a dump was not read: a read failed, there was no end, or this is the first of its faults.
-- Where memory ran out, it was read to its end, or nothing of it was (profile)
abbrev pub FailsToRead : List ℕ → Told → Told → DumpReadFault → Type 0
FailsToRead source start now Read = EndsSo start now end.Broken
FailsToRead source start now Endless = EndsSo start now end.Endless
FailsToRead source start now (Text n) = HasFault source start now (Text n)
FailsToRead source start now (Object n code) = HasFault source start now (Object n code)
FailsToRead source start now Memory = (now ≡ start) ⊎ EndsSo start now end.Whole

-- what reading a dump comes to: its objects, as they are listed in the answer, or a fault (profile)
abbrev pub ReadsDump : {V : Type 0} → Result V DumpReadFault → (V → List Obj) → List ℕ → Told
    → Told → Type 0
ReadsDump result items source start now =
    MatchResult result (λ objects. HasRead source start now (items objects))
    (FailsToRead source start now)
