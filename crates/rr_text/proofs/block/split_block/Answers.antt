-- The search passes lines that are not blank, and the text is cut where it stops.
use Rattle.std.proofs.Common.{◌<◌, ◌++◌, [], length, arith}
use Rattle.std.proofs.lemmas.Bool.Decides.{nat_tests}
use Rattle.rr_text.proofs.BlockLemmas.{IsAtBlank, taken_none, taken_more, taken_prefix, taken_back}
use Rattle.rr_text.proofs.BlockLemmas.{at_end, at_blank}
use Rattle.rr_text.proofs.block.split_block.Goals as goal
use Rattle.rr_text.proofs.block.split_block.Goals.{else-lines-test}
use Rattle.rr_text.proofs.block.split_block.Goals.{then-lines-test+then-is_blank_only}

pub lines-init : goal.lines-init
lines-init c = ([], taken_none _)

pub lines-preserved : goal.lines-preserved
lines-preserved c =
    let some : 0 < length c.lines.rest.now = grind (arith, nat_tests) in (
      c.lines.invariant.0 ++ c.split_line.result.0.now,
      taken_more _ _ _ _ _ c.lines.invariant.1 c.split_line.ensures.whole
          c.split_line.ensures.lines c.split_line.ensures.single c.split_line.ensures.ended (cc)
          some,
    )

pub returns-clause-block : goal.returns-clause-block
returns-clause-block c =
    let stop : IsAtBlank c.lines.rest.now = elim c.lines-test.branch [
      | else-lines-test w ↦ at_end _ (grind (arith, nat_tests))
      | then-lines-test+then-is_blank_only w ↦ at_blank _ _ _ w.split_line.ensures.lines (cc)
    ] in taken_prefix _ _ _ _ c.lines.invariant.1 stop c.split_at.ensures.front

pub returns-clause-after : goal.returns-clause-after
returns-clause-after c =
    let stop : IsAtBlank c.lines.rest.now = elim c.lines-test.branch [
      | else-lines-test w ↦ at_end _ (grind (arith, nat_tests))
      | then-lines-test+then-is_blank_only w ↦ at_blank _ _ _ w.split_line.ensures.lines (cc)
    ] in taken_back _ _ _ _ c.lines.invariant.1 stop c.split_at.ensures.back
