-- What a call answers that may find a fault in a paragraph, and the code of each fault.
use Rattle.std.specs.Prelude.{◌≡◌, ◌≢◌, Result, Ok, Err, IfOk, IfErr}
use Rattle.rr_object.specs.declared.object_fault.ObjectFault.{ObjectFault}
use Rattle.rr_object.specs.declared.object_fault.ObjectFault.TheVariants.{UnknownClass, BadKey}
use Rattle.rr_object.specs.declared.object_fault.ObjectFault.TheVariants.{BadCount, BadValue}
use Rattle.rr_object.specs.declared.object_fault.ObjectFault.TheVariants.{OtherSource, Memory}
use Rattle.rr_object.specs.declared.code.Code.{Code}
use Rattle.rr_object.specs.declared.code.Code.TheVariants.{E02, E03, E04, E05, E06, E90}

-- a call answers exactly this value or this fault, or that memory ran out (profile)
pub record GivesUnlessMemory {X : Type 0} (expected answer : Result X ObjectFault) : Type 0 where
  pub ok : IfOk answer (λ x. expected ≡ Ok x)
  pub fault : IfErr answer (λ fault. fault ≢ Memory → expected ≡ Err fault)

-- the code of an item that is refused for a fault (profile)
abbrev pub code_of : ObjectFault → Code
code_of UnknownClass = E02
code_of BadKey = E03
code_of BadCount = E04
code_of BadValue = E05
code_of OtherSource = E06
code_of Memory = E90
