-- The objects of a dump: the entries of a text, each an object of one source, or the first that is
-- none (profile). Readings and loads of dumps use them.
use Rattle.std.specs.Prelude.{◌≡◌, ℕ, ◌+◌, List, [], ◌∷◌, Result, Ok, Err}
use Rattle.rr_text.specs.Entries.{entries}
use Rattle.rr_text.specs.ParagraphReaders.{Entry}
use Rattle.rr_object.specs.declared.object_fault.ObjectFault.{ObjectFault}
use Rattle.rr_object.specs.Faults.{code_of}
use Rattle.rr_object.specs.Objects.{Obj}
use Rattle.rr_object.specs.Readings.{object_of}
use Rattle.rr_auth.specs.Registries.{Reg}
use Rattle.rr_registry.specs.Loading.{IsTaken}
use Rattle.rr_desk.specs.declared.dump_read_fault.DumpReadFault.{DumpReadFault}
use Rattle.rr_desk.specs.declared.dump_read_fault.DumpReadFault.TheVariants.{Text, Object}

-- the object of the n-th entry, or the code with which a submission of its paragraph is refused
-- (profile)
abbrev pub object_result : ℕ → Result Obj ObjectFault → Result Obj DumpReadFault
object_result n (Ok object) = Ok object
object_result n (Err fault) = Err (Object n (code_of fault))

-- the n-th entry is an object of the source, or it has a fault as a text or as an object (profile)
abbrev pub entry_object : List ℕ → ℕ → Entry → Result Obj DumpReadFault
entry_object source n (Ok fields) = object_result n (object_of fields source)
entry_object source n (Err fault) = Err (Text n)

-- the objects with this one first; the fault that comes first is that of all of them
abbrev pub with_first : Result Obj DumpReadFault → Result (List Obj) DumpReadFault
    → Result (List Obj) DumpReadFault
with_first (Ok object) (Ok objects) = Ok (object ∷ objects)
with_first (Ok object) (Err fault) = Err fault
with_first (Err fault) later = Err fault

-- the objects of entries, the first of which is the n-th, or the first of their faults (profile)
abbrev pub objects_from : List ℕ → ℕ → List Entry → Result (List Obj) DumpReadFault
objects_from source n [] = Ok []
objects_from source n (entry ∷ later) =
    with_first (entry_object source n entry) (objects_from source (n + 1) later)

-- the objects of a dump, or the first of its faults; entries are counted from 1 (profile)
abbrev pub dump_objects : List ℕ → List ℕ → Result (List Obj) DumpReadFault
dump_objects source text = objects_from source 1 (entries text)

-- the entries of a text are objects of one source, and these are taken as this registry (profile)
pub record IsDumpOf (source text : List ℕ) (registry : Reg) : Type 0 where
  pub objects : List Obj
  pub are : dump_objects source text ≡ Ok objects
  pub taken : IsTaken objects registry
