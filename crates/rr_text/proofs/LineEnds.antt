-- Lemmas on the lines of a text at the end of one of them: for `draft`.
use Rattle.std.proofs.Common.{◌≡◌, ℕ, Bool, true, false, ◌||◌, List, [], ◌∷◌, ◌++◌, refl}
use Rattle.std.proofs.Common.{sym, ap, ◌∙◌, append_assoc}
use Rattle.std.proofs.lemmas.List.{append-nil}
use Rattle.std.proofs.lemmas.List.Folds.{list_any-append}
use Rattle.std.specs.List.{list_any}
use Rattle.rr_text.specs.DraftParts.{IsCutSo}
use Rattle.rr_bytes.specs.Blanks.{is_line_feed}
use Rattle.rr_text.specs.Lines.{text_lines, are_whole_lines, is_blank_line, is_paragraph_line}
use Rattle.rr_text.specs.Blocks.{blocks, from_blank}
use Rattle.rr_text.specs.PrivateParts.{starts_block, until_blank}
use Rattle.rr_text.proofs.LineLemmas.{text_lines-append}
use Rattle.rr_text.proofs.LineSoFarLemmas.{or_none, unended, single_after}
use Rattle.rr_text.proofs.BlockLemmas.{blocks_passed, blocks_apart, no_blocks, head_of}

-- lines of no paragraph before others give no block
pub blocks_idle : (passed lines : List (List ℕ)) → list_any is_paragraph_line passed ≡ false →
    blocks (passed ++ lines) ≡ blocks lines
blocks_idle [] lines h = refl
blocks_idle (line ∷ passed) lines h =
    let none = or_none (is_paragraph_line line) (list_any is_paragraph_line passed) h in
    blocks_passed line (passed ++ lines) none.0 ∙ blocks_idle passed lines none.1

pub idle_alone : (passed : List (List ℕ)) → list_any is_paragraph_line passed ≡ false →
    blocks passed ≡ []
idle_alone passed h = ap blocks (sym (append-nil passed)) ∙ (blocks_idle passed [] h ∙ no_blocks)

unbroken_until : (lines : List (List ℕ)) → list_any is_blank_line lines ≡ false →
    (until_blank lines ≡ lines) × (from_blank lines ≡ [])
unfolding until_blank from_blank
unbroken_until [] h = (refl, refl)
unbroken_until (line ∷ others) h =
    let none = or_none (is_blank_line line) (list_any is_blank_line others) h in
    let first : is_blank_line line ≡ false = none.0 in
    let rest = unbroken_until others none.1 in
    (rw first (ap (λ ls. line ∷ ls) rest.0), rw first rest.1)

-- lines without a blank one, of which the first is of a paragraph, are one block
pub blocks_one : (lines : List (List ℕ)) → starts_block lines ≡ true → list_any is_blank_line lines
    ≡ false → blocks lines ≡ lines ∷ []
blocks_one lines starts h =
    let all = unbroken_until lines h in
    (head_of lines starts).first ∙ (ap (λ ls. ls ∷ blocks (from_blank lines)) all.0
    ∙ (ap (λ ls. lines ∷ blocks ls) all.1 ∙ ap (λ bs. lines ∷ bs) no_blocks))

-- the lines of a text at the end of one of them: those of no block, the block before it, and that
-- line
pub record IsAtLineEnd (text : List ℕ) (started : Bool) (block line : List ℕ) : Type 0 where
  pub passed : List (List ℕ)
  pub lines : text_lines text ≡ passed ++ (text_lines block ++ text_lines line)
  pub idle : list_any is_paragraph_line passed ≡ false
  pub starts : starts_block (text_lines block) ≡ started
  pub none : started ≡ false → block ≡ []
  pub unbroken : list_any is_blank_line (text_lines block) ≡ false
  pub whole : are_whole_lines block ≡ true
  pub single : text_lines line ≡ line ∷ []

pub no_text_lines : text_lines [] ≡ []
unfolding text_lines
no_text_lines = refl

-- such a line that passes leaves no block
pub passed_end : (text block line : List ℕ) → IsAtLineEnd text false block line →
    is_paragraph_line line ≡ false → blocks (text_lines text) ≡ []
passed_end text block line at h =
    let none : block ≡ [] = at.none refl in
    let lines : text_lines text ≡ at.passed ++ line ∷ [] =
    at.lines ∙ ap (λ ls. at.passed ++ ls) (ap (λ b. text_lines b ++ text_lines line) none
    ∙ (ap (λ ls. ls ++ text_lines line) no_text_lines ∙ at.single))
    in ap blocks lines ∙ (blocks_idle at.passed (line ∷ []) at.idle
    ∙ (blocks_passed line [] h ∙ no_blocks))

-- one that closes leaves the block before it
pub closed_end : (text block line : List ℕ) → IsAtLineEnd text true block line → is_blank_line line
    ≡ true → blocks (text_lines text) ≡ text_lines block ∷ []
closed_end text block line at h =
    ap blocks at.lines
    ∙ (blocks_idle at.passed (text_lines block ++ text_lines line) at.idle
    ∙ (ap (λ ls. blocks (text_lines block ++ ls)) at.single
    ∙ (blocks_apart (text_lines block) line [] h
    ∙ (ap (λ bs. blocks (text_lines block) ++ bs) no_blocks
    ∙ (append-nil (blocks (text_lines block)) ∙ blocks_one (text_lines block) at.starts
    at.unbroken)))))

-- what a block is with one more line
pub record IsLonger (block line : List ℕ) : Type 0 where
  pub lines : text_lines (block ++ line) ≡ text_lines block ++ text_lines line
  pub starts : starts_block (text_lines (block ++ line)) ≡ true
  pub unbroken : list_any is_blank_line (text_lines (block ++ line)) ≡ false

starts_by : (started : Bool) (lines : List (List ℕ)) (line : List ℕ) → starts_block lines
    ≡ started → (started ≡ false → lines ≡ []) → (started || is_paragraph_line line) ≡ true
    → starts_block (lines ++ line ∷ []) ≡ true
starts_by true [] line starts none h = cc
starts_by true (first ∷ others) line starts none h = starts
starts_by false lines line starts none h = let e : lines ≡ [] = none refl in rw e h

unblank_one : (line : List ℕ) → is_blank_line line ≡ false → list_any is_blank_line (line ∷ [])
    ≡ false
unblank_one line h = rw h refl

pub idle_one : (line : List ℕ) → is_paragraph_line line ≡ false → list_any is_paragraph_line
    (line ∷ []) ≡ false
idle_one line h = rw h refl

pub none_both : (a b : Bool) → a ≡ false → b ≡ false → (a || b) ≡ false
none_both a b h k = rw (h, k) refl

pub longer : (text block line : List ℕ) (started : Bool) → IsAtLineEnd text started block line →
    is_blank_line line ≡ false → (started || is_paragraph_line line) ≡ true → IsLonger block line
longer text block line started at h begins =
    let lines : text_lines (block ++ line) ≡ text_lines block ++ text_lines line =
    text_lines-append block line at.whole in
    let both : text_lines (block ++ line) ≡ text_lines block ++ line ∷ [] =
    lines ∙ ap (λ ls. text_lines block ++ ls) at.single in
    record {
      lines = lines;
      starts = ap starts_block both ∙ starts_by started (text_lines block) line at.starts
          (λ e. ap text_lines (at.none e) ∙ no_text_lines) begins;
      unbroken = ap (list_any is_blank_line) both
          ∙ (list_any-append is_blank_line (text_lines block) (line ∷ [])
          ∙ none_both (list_any is_blank_line (text_lines block))
          (list_any is_blank_line (line ∷ [])) at.unbroken (unblank_one line h));
    }

-- one that is taken is the last of the block
pub taken_end : (text block line : List ℕ) (started : Bool) → IsAtLineEnd text started block line →
    IsLonger block line → blocks (text_lines text) ≡ text_lines (block ++ line) ∷ []
taken_end text block line started at more =
    ap blocks at.lines
    ∙ (blocks_idle at.passed (text_lines block ++ text_lines line) at.idle
    ∙ (ap blocks (sym more.lines) ∙ blocks_one (text_lines (block ++ line)) more.starts
    more.unbroken))

-- the line that has begun, with a piece after it
pub after_lines : (text piece line : List ℕ) (passed block : List (List ℕ)) →
    ((more : List ℕ) → text_lines (text ++ more) ≡ passed ++ (block ++ text_lines (line ++ more)))
    → (more : List ℕ) → text_lines ((text ++ piece) ++ more) ≡ passed ++
    (block ++ text_lines ((line ++ piece) ++ more))
after_lines text piece line passed block lines more =
    ap text_lines (append_assoc text piece more)
    ∙ (lines (piece ++ more) ∙ ap (λ t. passed ++ (block ++ text_lines t))
    (sym (append_assoc line piece more)))

-- a piece without an LF makes the line longer
pub cut_more : (text block line piece : List ℕ) (started : Bool) → IsCutSo text started block line
    → text_lines piece ≡ piece ∷ [] → are_whole_lines piece ≡ false
    → IsCutSo (text ++ piece) started block (line ++ piece)
cut_more text block line piece started cut single h = record {
  passed = cut.passed;
  lines = after_lines text piece line cut.passed (text_lines block) cut.lines;
  idle = cut.idle;
  starts = cut.starts;
  none = cut.none;
  unbroken = cut.unbroken;
  whole = cut.whole;
  unfinished = list_any-append is_line_feed line piece ∙ none_both (list_any is_line_feed line)
      (list_any is_line_feed piece) cut.unfinished (unended piece single h);
}

-- a text without what follows it
pub cut_all : (text block line : List ℕ) (started : Bool) (cut : IsCutSo text started block line) →
    text_lines text ≡ cut.passed ++ (text_lines block ++ text_lines line)
cut_all text block line started cut =
    ap text_lines (sym (append-nil text))
    ∙ (cut.lines [] ∙ ap (λ t. cut.passed ++ (text_lines block ++ text_lines t))
    (append-nil line))

-- a piece with its LF ends the line
pub cut_ended : (text block line piece : List ℕ) (started : Bool) → IsCutSo text started block line
    → text_lines piece ≡ piece ∷ []
    → IsAtLineEnd (text ++ piece) started block (line ++ piece)
cut_ended text block line piece started cut single = record {
  passed = cut.passed;
  lines = cut.lines piece;
  idle = cut.idle;
  starts = cut.starts;
  none = cut.none;
  unbroken = cut.unbroken;
  whole = cut.whole;
  single = single_after line piece cut.unfinished single;
}
