-- A line that begins no block is passed.
use Rattle.std.proofs.Common.{◌≡◌, ◌++◌, ◌∷◌, ◌∙◌, arith, length, sym, ap}
use Rattle.std.proofs.lemmas.Bool.Decides.{nat_tests}
use Rattle.rr_text.specs.Lines.{text_lines}
use Rattle.rr_text.specs.Blocks.{blocks, from_block}
use Rattle.rr_text.proofs.BlockLemmas.{blocks_passed, passed_line}
use Rattle.rr_text.proofs.PlaceLemmas.{from_block_here, from_block_none, from_block_passed}
use Rattle.rr_text.proofs.block.skip_to_block.Goals as goal

pub lines-preserved : goal.lines-preserved
lines-preserved c = record {
  after = (
    c.lines.invariant.after.0 ++ c.split_line.result.0.now,
    passed_line _ _ _ _ _
        c.lines.invariant.after.1 c.split_line.ensures.whole,
  );
  same =
      let passed : blocks (c.split_line.result.0.now ∷ text_lines c.split_line.result.1.now)
      ≡ blocks (text_lines c.split_line.result.1.now) =
      blocks_passed _ _ (cc)
      in sym passed ∙ (ap blocks (sym c.split_line.ensures.lines) ∙ c.lines.invariant.same);
  lines =
      let passed : from_block (c.split_line.result.0.now ∷ text_lines c.split_line.result.1.now)
      ≡ from_block (text_lines c.split_line.result.1.now) =
      from_block_passed _ _ (cc)
      in sym passed ∙ (ap from_block (sym c.split_line.ensures.lines) ∙ c.lines.invariant.lines);
}

pub returns-then-is_of_paragraph-clause-lines : goal.returns-then-is_of_paragraph-clause-lines
returns-then-is_of_paragraph-clause-lines c =
    from_block_here _ _ _ c.split_line.ensures.lines (cc) ∙ c.lines.invariant.lines

pub returns-clause-lines : goal.returns-clause-lines
returns-clause-lines c =
    let none : length c.lines.rest.now ≡ 0 = grind (arith, nat_tests) in
    from_block_none _ none ∙ c.lines.invariant.lines
