use Rattle.std.proofs.Common.{Some, ap, sym, ◌∙◌}
use Rattle.rr_number.proofs.Components.{length-cut}
use Rattle.rr_number.proofs.ParentLemmas.{IsLastOf-cut, parent_text-whole, parent_text-part}
use Rattle.rr_number.proofs.set_name.parent.parent_text.Goals as goal

pub components-smaller : goal.components-smaller
components-smaller c = length-cut c.components.last.now c.in-Some.field-0-0.now c.in-Some.after.now
    (sym c.in-Some.ensures)

pub components-preserved : goal.components-preserved
components-preserved c =
    IsLastOf-cut c.args.bytes.now c.components.last.now c.in-Some.field-0-0.now c.in-Some.after.now
    c.components.invariant (sym c.in-Some.ensures)

pub returns-then-last-bytes : goal.returns-then-last-bytes
returns-then-last-bytes c =
    sym (parent_text-whole c.args.bytes.now c.components.last.now c.components.invariant
    (sym c.in_default.ensures) c.if-last-bytes.true)

pub returns : goal.returns
returns c =
    ap Some c.split_at.ensures.front
    ∙ sym (parent_text-part c.args.bytes.now c.components.last.now c.components.invariant
    (sym c.in_default.ensures) c.if-last-bytes.false)
