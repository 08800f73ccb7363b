-- The first fault is that of the first faulty line.
use Rattle.std.proofs.Common.{◌≡◌, ◌∙◌, length, sym, ap, arith}
use Rattle.std.proofs.lemmas.Bool.Decides.{nat_tests}
use Rattle.rr_text.specs.Lines.{text_lines}
use Rattle.rr_text.specs.Faults as faults
use Rattle.rr_text.proofs.FaultLemmas.{later_found, later_more, later_none, no_fault}
use Rattle.rr_text.proofs.inspect.later_fault.Goals as goal

pub returns-then-is_some : goal.returns-then-is_some
returns-then-is_some c =
    later_found _ _ _ _ c.line_fault-fault.ensures (cc) c.split_line.ensures.lines
    ∙ c.lines.invariant

pub lines-preserved : goal.lines-preserved
lines-preserved c =
    let none = no_fault c.line_fault-fault.result (cc) in
    sym (ap faults.later_fault c.split_line.ensures.lines ∙ later_more c.split_line.result.0.now
    (text_lines c.split_line.result.1.now) (sym c.line_fault-fault.ensures ∙ none))
    ∙ c.lines.invariant

pub returns : goal.returns
returns c =
    let none : length c.lines.rest.now ≡ 0 = grind (arith, nat_tests) in
    sym (later_none c.lines.rest.now none) ∙ c.lines.invariant
