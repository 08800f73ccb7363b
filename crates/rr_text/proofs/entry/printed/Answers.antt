use Rattle.std.proofs.Common.{◌≡◌, ◌∙◌, ap, length, arith}
use Rattle.std.proofs.lemmas.Bool.Decides.{nat_tests}
use Rattle.rr_text.specs.KeptText.{printed_lines}
use Rattle.rr_text.proofs.KeptLemmas.{ended_by, printed_more, printed_none, step_by}
use Rattle.rr_text.proofs.entry.printed.Goals as goal

pub lines-preserved : goal.lines-preserved
lines-preserved c =
    step_by _ _ _ _ _ _ c.lines.invariant (ap printed_lines c.split_line.ensures.lines
    ∙ printed_more _ _ _ c.of.ensures) c.in_ok-push_line.ensures.ok

pub returns : goal.returns
returns c =
    let none : length c.lines.rest.now ≡ 0 = grind (arith, nat_tests) in
    ended_by _ _ _ c.lines.invariant (printed_none c.lines.rest.now none).0
