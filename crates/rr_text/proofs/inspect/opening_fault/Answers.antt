use Rattle.std.proofs.Common.{arith}
use Rattle.rr_text.specs.Faults.{opening_fault}
use Rattle.rr_text.proofs.FaultLemmas.{found_at, not_found}
use Rattle.rr_text.proofs.inspect.opening_fault.Goals as goal

pub returns-in-None : goal.returns-in-None
unfolding opening_fault
returns-in-None c = grind (arith, not_found)

pub returns-then-is_attribute_name : goal.returns-then-is_attribute_name
unfolding opening_fault
returns-then-is_attribute_name c = grind (arith, found_at)

pub returns-else-is_attribute_name : goal.returns-else-is_attribute_name
unfolding opening_fault
returns-else-is_attribute_name c = grind (arith, found_at)
