-- The place after the first block of a text: for `block`.
use Rattle.std.proofs.Common.{◌≡◌, ℕ, ◌-◌, true, false, List, [], ◌∷◌, length, drop, refl, sym, ap}
use Rattle.std.proofs.Common.{◌∙◌, arith}
use Rattle.std.specs.List.{concat}
use Rattle.rr_text.specs.Lines.{text_lines, is_paragraph_line}
use Rattle.rr_text.specs.Blocks.{from_blank, from_block, place_after}
use Rattle.rr_text.proofs.EntryLemmas.{concat-text_lines}

-- a line that is not of a paragraph is passed
pub from_block_passed : (line : List ℕ) (others : List (List ℕ)) → is_paragraph_line line ≡ false →
    from_block (line ∷ others) ≡ from_block others
unfolding from_block
from_block_passed line others h = rw h refl

-- any other line is the first
pub from_block_here : (lines : List (List ℕ)) (line : List ℕ) (others : List (List ℕ)) →
    lines ≡ line ∷ others → is_paragraph_line line ≡ true → lines ≡ from_block lines
unfolding from_block
from_block_here lines line others e h = rw (e, h) refl

-- no text has no lines to pass
pub from_block_none : (text : List ℕ) → length text ≡ 0 → text_lines text ≡ from_block
    (text_lines text)
unfolding from_block text_lines
from_block_none [] h = refl
from_block_none (b ∷ bs) h = absurd (omega arith)

-- what is left after the first block tells the place
pub place_of_rest : (from : ℕ) (text left rest after : List ℕ) → left ≡ drop from text →
    text_lines rest ≡ from_block (text_lines left)
    → text_lines after ≡ from_blank (text_lines rest) → length text - length after ≡ place_after
    from text
unfolding place_after
place_of_rest from text left rest after cut to_block to_blank =
    let lines : text_lines after ≡ from_blank (from_block (text_lines (drop from text))) =
    to_blank ∙ ap from_blank (to_block ∙ ap (λ t. from_block (text_lines t)) cut) in
    ap (λ t. length text - length t) (sym (concat-text_lines after) ∙ ap concat lines)

-- where no block begins, it is the end
pub place_of_none : (from : ℕ) (text left rest : List ℕ) → left ≡ drop from text → text_lines rest
    ≡ from_block (text_lines left)
    → length rest ≡ 0 → length text ≡ place_after from text
unfolding text_lines from_blank
place_of_none from text left [] cut to_block none =
    let all : length text ≡ length text - 0 = omega arith in
    all ∙ place_of_rest from text left [] [] cut to_block refl
place_of_none from text left (b ∷ bs) cut to_block none = absurd (omega arith)
