use Rattle.std.proofs.Common.{sym}
use Rattle.rr_number.proofs.Components.{length-cut}
use Rattle.rr_number.proofs.SetTexts.{printed_more, printed_last}
use Rattle.rr_number.proofs.set_name.printed.Goals as goal

pub components-smaller : goal.components-smaller
components-smaller c = length-cut c.components.rest.now c.in-Some.component.now c.in-Some.after.now
    (sym c.in-Some.ensures)

pub components-preserved : goal.components-preserved
components-preserved c =
    printed_more _ c.components.text.items c.push_component.new.text.items c.push.new.self.items
    c.components.rest.now c.in-Some.component.now c.in-Some.after.now
    c.components.invariant (sym c.in-Some.ensures) c.in_ok-push_component.ensures
    c.in_ok-push.ensures.items

pub returns : goal.returns
returns c =
    printed_last _ c.components.text.items c.push_component-2.new.text.items c.components.rest.now
    c.components.invariant (sym c.in_default.ensures) c.in_ok-push_component-2.ensures
