use Rattle.std.proofs.Common.{sym}
use Rattle.rr_number.proofs.SetNameLemmas.{IsSetText-set_text}
use Rattle.rr_number.proofs.set_name.SetName.read.Goals as goal

pub invariant_of-result : goal.invariant_of-result
invariant_of-result c = rw c.in_ok-bytes.ensures
    (IsSetText-set_text _ (sym c.if-not-is_set_name.ensures))
