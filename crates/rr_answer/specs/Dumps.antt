-- What a dump writes: for `dump`. `read_dump` of `rr_desk` and `tools/irr` read it.
use Rattle.std.specs.Prelude.{◌≡◌, ◌<◌, ℕ, Bool, true, false, List, ◌++◌, codes}
use Rattle.std.specs.Prelude.{decimal, length, Result, Ok, Err}
use Rattle.std.specs.FinMap.{values}
use Rattle.std.specs.List.{flat_map}
use Rattle.rr_io.specs.Sending.{Takes, TakesPrefix}
use Rattle.rr_io.specs.Told.{Told}
use Rattle.rr_text.specs.CanonicalText.{canonical, ended}
use Rattle.rr_object.specs.Objects.{Obj}
use Rattle.rr_auth.specs.Registries.{Reg}
use Rattle.rr_answer.specs.declared.dumping.DumpFault.{DumpFault}
use Rattle.rr_answer.specs.declared.dumping.DumpFault.TheVariants.{Write, Memory}
use Rattle.rr_answer.specs.Texts.{public_text}

-- An object in a dump: in a full one its whole canonical text, in a public one that of its public
-- form; and an empty line after it (profile).
abbrev pub dumped : Bool → Obj → List ℕ
dumped true o = ended (canonical o.paragraph)
dumped false o = public_text o

-- The last line of a dump, `% end` with the number of its objects (profile).
abbrev pub end_line : ℕ → List ℕ
end_line count = ended (codes "% end " ++ decimal count)

-- A dump has each object of a registry, by class and key, and then the line that counts them
-- (profile).
abbrev pub dump : Bool → Reg → List ℕ
dump full r = flat_map (dumped full) (values r) ++ end_line (length (values r))

-- Some prefix of these bytes was taken, and not all of them, and no call failed (profile).
pub record TakesPart (old new : Told) (bytes : List ℕ) : Type 0 where
  pub prefix : List ℕ
  pub rest : List ℕ
  pub whole : bytes ≡ prefix ++ rest
  pub some_left : 0 < length rest
  pub takes : Takes old new prefix

-- A dump was cut short: the beginning of its bytes was taken, and not all, before a write failed,
-- or before memory ran out (profile).
abbrev pub IsCut : List ℕ → Told → Told → DumpFault → Type 0
IsCut bytes before after Write = TakesPrefix before after bytes
IsCut bytes before after Memory = TakesPart before after bytes

-- The bytes of a dump were written, or it was cut short (profile).
abbrev pub WritesDump : {T : Type 0} → List ℕ → Told → Told → Result T DumpFault
    → Type 0
WritesDump bytes before after (Ok done) = Takes before after bytes
WritesDump bytes before after (Err fault) = IsCut bytes before after fault
