use Rattle.std.proofs.Common.{sym}
use Rattle.rr_number.proofs.NameLemmas.{IsUpperName-upper}
use Rattle.rr_number.proofs.name.Name.read.Goals as goal

pub invariant_of-result : goal.invariant_of-result
invariant_of-result c = rw c.in_ok-bytes.ensures
    (IsUpperName-upper _ (sym c.if-not-is_name.ensures))
