use Rattle.std.proofs.Common.{ap, sym, ◌∙◌}
use Rattle.rr_number.specs.Parents.{parent_text}
use Rattle.rr_number.proofs.ParentLemmas.{IsSetText-parent}
use Rattle.rr_number.proofs.set_name.SetName.parent.Goals as goal

pub invariant_of-result : goal.invariant_of-result
invariant_of-result c =
    rw c.in_ok-bytes.ensures.items
    (IsSetText-parent c.args.self.now c.in-Some.parent.now c.as_bytes.ensures.holds
    (ap parent_text (sym c.as_bytes.ensures.value) ∙ sym c.in-Some.ensures)
    (sym c.if-has_as_numbers_alone.ensures))
