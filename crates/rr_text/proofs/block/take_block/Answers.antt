-- The first block is what stands before the first blank line after the place where it starts.
use Rattle.std.proofs.Common.{◌≡◌, ◌<◌, ◌∙◌, length, sym, ap, arith}
use Rattle.std.proofs.lemmas.Bool.Decides.{nat_tests}
use Rattle.rr_text.specs.Lines.{text_lines}
use Rattle.rr_text.specs.Blocks.{blocks}
use Rattle.rr_text.proofs.BlockLemmas.{blocks_none, taken_at}
use Rattle.rr_text.proofs.PlaceLemmas.{place_of_none, place_of_rest}
use Rattle.rr_text.proofs.block.take_block.Goals as goal

pub returns-then-is_empty-clause-none : goal.returns-then-is_empty-clause-none
returns-then-is_empty-clause-none c =
    let none : length c.skip_to_block-rest.result.now ≡ 0 = grind (arith, nat_tests) in
    ap (λ bs. blocks (text_lines bs)) (sym c.split_at.ensures.back)
    ∙ (sym c.skip_to_block-rest.ensures.same ∙ blocks_none _ none)

pub returns-clause-found : goal.returns-clause-found
returns-clause-found c =
    let some : 0 < length c.skip_to_block-rest.result.now = grind (arith, nat_tests) in
    taken_at _ _ _ _ _ _ c.requires (sym c.split_at.ensures.back)
    c.skip_to_block-rest.ensures.after c.skip_to_block-rest.ensures.same
    c.skip_to_block-rest.ensures.starts some
    c.split_block.ensures.whole c.split_block.ensures.block c.split_block.ensures.after

pub returns-then-is_empty-clause-end : goal.returns-then-is_empty-clause-end
returns-then-is_empty-clause-end c =
    let none : length c.skip_to_block-rest.result.now ≡ 0 = grind (arith, nat_tests) in
    place_of_none _ _ _ _ c.split_at.ensures.back c.skip_to_block-rest.ensures.lines none

pub returns-clause-after : goal.returns-clause-after
returns-clause-after c = place_of_rest _ _ _ _ _ c.split_at.ensures.back
    c.skip_to_block-rest.ensures.lines c.split_block.ensures.after
