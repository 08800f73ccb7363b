-- What a dump of a desk writes: for `Desk::dump` and the registrars of `rr_http`.
use Rattle.std.specs.Prelude.{◌≡◌, ℕ, List, Result, Ok, Err}
use Rattle.rr_io.specs.Sending.{Takes, TakesPrefix}
use Rattle.rr_io.specs.Told.{Told}
use Rattle.rr_answer.specs.declared.dumping.DumpFault.{DumpFault as Cut}
use Rattle.rr_answer.specs.declared.dumping.DumpFault.TheVariants as cut
use Rattle.rr_answer.specs.Dumps.{TakesPart}
use Rattle.rr_desk.specs.declared.desk_dumping.DeskDumpFault.{DeskDumpFault}
use Rattle.rr_desk.specs.declared.desk_dumping.DeskDumpFault.TheVariants.{Write, Memory, Stopped}

-- why a dump of a desk was cut short, by why that of its registry was (profile)
abbrev pub fault_of_cut : Cut → DeskDumpFault
fault_of_cut cut.Write = Write
fault_of_cut cut.Memory = Memory

-- a dump of a desk that runs was cut short: a write failed, or memory ran out and none failed; what
-- was written is a beginning of it, and not all. Such a desk never answers `Stopped` (profile)
abbrev pub IsCutShort : List ℕ → Told → Told → DeskDumpFault → Type 0
IsCutShort bytes before after Write = TakesPrefix before after bytes
IsCutShort bytes before after Memory = TakesPart before after bytes
IsCutShort bytes before after Stopped = ⊥

-- a desk that runs writes the bytes of a dump, or it is cut short (profile)
abbrev pub Dumps : {X : Type 0} → List ℕ → Told → Told → Result X DeskDumpFault → Type 0
Dumps bytes before after (Ok done) = Takes before after bytes
Dumps bytes before after (Err fault) = IsCutShort bytes before after fault

-- a desk that is stopped gives no dump, and writes nothing
abbrev pub RefusesDump : {W X : Type 0} → W → W → Result X DeskDumpFault → Type 0
RefusesDump writer_old writer_new result = (result ≡ Err Stopped) × (writer_new ≡ writer_old)
