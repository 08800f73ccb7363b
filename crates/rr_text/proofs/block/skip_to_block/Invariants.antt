use Rattle.std.proofs.Common.{◌≡◌, ◌++◌, List, ℕ, length}
use Rattle.rr_text.specs.Lines.{text_lines}
use Rattle.rr_text.specs.Blocks.{blocks, from_block}
use Rattle.rr_text.proofs.block.skip_to_block.Given as goal

abbrev pub invariant-lines : goal.invariant-lines
invariant-lines l = record {
  after : (prefix : List ℕ) × (l.text ≡ prefix ++ l.rest);
  same : blocks (text_lines l.rest) ≡ blocks (text_lines l.text);
  lines : from_block (text_lines l.rest) ≡ from_block (text_lines l.text);
}

abbrev pub decreases-lines : goal.decreases-lines
decreases-lines l = length l.rest
