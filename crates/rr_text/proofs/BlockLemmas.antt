-- Lemmas on the blocks of a text: for `block`, and for the entries of texts.
use Rattle.std.proofs.Common.{◌≡◌, ◌≢◌, ℕ, ◌+◌, ◌-◌, ◌<◌, ◌≤◌, Bool, true, false, not, ◌&&◌, List}
use Rattle.std.proofs.Common.{[], ◌∷◌, ◌++◌, ◌⊎◌, length, take, drop, refl, sym, ap, ◌∙◌, inl, inr}
use Rattle.std.proofs.Common.{arith, append_assoc, length-append, map, filter}
use Rattle.std.specs.List.{slice_split, onto_first}
use Rattle.rr_text.specs.Lines.{text_lines, are_whole_lines, is_blank_line, is_skipped_line}
use Rattle.rr_text.specs.Lines.{is_paragraph_line}
use Rattle.std.proofs.lemmas.List.Elements.{filter-append}
use Rattle.std.proofs.lemmas.List.{take_at, drop_at, append-nil, map-append, take-append-drop}
use Rattle.std.proofs.lemmas.List.{length-take-le}
use Rattle.rr_text.proofs.LineLemmas.{text_lines-append, are_whole_lines-append}
use Rattle.rr_text.specs.Blocks.{blocks, from_unskipped, has_line, from_blank}
use Rattle.rr_text.specs.PrivateParts.{starts_block, until_blank}

-- what `slice_split` gives after its first part
parts_after : List (List ℕ) → List (List (List ℕ))
parts_after [] = []
parts_after (line ∷ others) = slice_split is_blank_line others

split_by : (t : Bool) (line : List ℕ) (others : List (List ℕ)) → is_blank_line line ≡ t
    → slice_split is_blank_line others ≡ until_blank others ∷ parts_after (from_blank others)
    → slice_split is_blank_line (line ∷ others) ≡ until_blank (line ∷ others) ∷ parts_after
    (from_blank (line ∷ others))
unfolding until_blank from_blank parts_after
split_by true line others h rec = rw h refl
split_by false line others h rec = rw h (ap (onto_first line) rec)

split_until : (lines : List (List ℕ)) → slice_split is_blank_line lines ≡ until_blank lines
    ∷ parts_after (from_blank lines)
unfolding until_blank from_blank parts_after
split_until [] = refl
split_until (line ∷ others) = split_by (is_blank_line line) line others refl (split_until others)

-- the blocks of the parts after the first one
later_by : (t : Bool) (line : List ℕ) (others : List (List ℕ)) → is_blank_line line ≡ t
    → filter has_line (map from_unskipped (parts_after (from_blank others)))
    ≡ blocks (from_blank others)
    → filter has_line (map from_unskipped (parts_after (from_blank (line ∷ others))))
    ≡ blocks (from_blank (line ∷ others))
unfolding from_blank parts_after blocks from_unskipped
later_by true line others h rec = rw h (rw h refl)
later_by false line others h rec = rw h rec

later_blocks : (lines : List (List ℕ)) →
    filter has_line (map from_unskipped (parts_after (from_blank lines)))
    ≡ blocks (from_blank lines)
unfolding from_blank parts_after blocks from_unskipped
later_blocks [] = refl
later_blocks (line ∷ others) = later_by (is_blank_line line) line others refl (later_blocks others)

-- a blank line is part of no block
pub blocks_blank : (line : List ℕ) (others : List (List ℕ)) → is_blank_line line ≡ true →
    blocks (line ∷ others) ≡ blocks others
unfolding blocks from_unskipped
blocks_blank line others h = rw h refl

-- nor is a skipped line before a block
pub blocks_skipped : (line : List ℕ) (others : List (List ℕ)) → is_blank_line line ≡ false →
    is_skipped_line line ≡ true → blocks (line ∷ others) ≡ blocks others
unfolding blocks from_unskipped
blocks_skipped line others h s = rw (h, split_until others, s) refl

passed_by : (t s : Bool) (line : List ℕ) (others : List (List ℕ)) → is_blank_line line ≡ t →
    is_skipped_line line ≡ s → (not t && not s) ≡ false → blocks (line ∷ others) ≡ blocks others
passed_by true s line others b k h = blocks_blank line others b
passed_by false true line others b k h = blocks_skipped line others b k
passed_by false false line others b k h = cc

-- a line that is not of a paragraph begins no block
pub blocks_passed : (line : List ℕ) (others : List (List ℕ)) → is_paragraph_line line ≡ false →
    blocks (line ∷ others) ≡ blocks others
blocks_passed line others h = passed_by (is_blank_line line) (is_skipped_line line) line others
    refl refl h

-- a text and its rest, one more line on
pub passed_line : (text rest line after prefix : List ℕ) → text ≡ prefix ++ rest →
    rest ≡ line ++ after → text ≡ (prefix ++ line) ++ after
passed_line text rest line after prefix h e = cc (append_assoc prefix line after)

-- any other line begins a block
pub blocks_prefix : (line : List ℕ) (others : List (List ℕ)) → is_blank_line line ≡ false →
    is_skipped_line line ≡ false
    → blocks (line ∷ others) ≡ until_blank (line ∷ others) ∷ blocks (from_blank (line ∷ others))
unfolding blocks from_unskipped until_blank from_blank
blocks_prefix line others h s =
    let parts : slice_split is_blank_line (line ∷ others) ≡ (line ∷ until_blank others)
    ∷ parts_after (from_blank others) =
    rw h (ap (onto_first line) (split_until others))
    in
    let rest : filter has_line (map from_unskipped (parts_after (from_blank others)))
    ≡ blocks (from_blank others) = later_blocks others in
    rw (parts, s, h) (ap (λ bs. (line ∷ until_blank others) ∷ bs) rest)

-- done is the prefix of the text that a search for its first blank line has passed
pub record IsTaken (text done rest : List ℕ) : Type 0 where
  pub whole : text ≡ done ++ rest
  pub ended : (are_whole_lines done ≡ true) ⊎ (rest ≡ [])
  pub block : until_blank (text_lines text) ≡ text_lines done ++ until_blank (text_lines rest)
  pub after : from_blank (text_lines text) ≡ from_blank (text_lines rest)

pub taken_none : (text : List ℕ) → IsTaken text [] text
unfolding text_lines are_whole_lines
taken_none text = record { whole = refl; ended = inl refl; block = refl; after = refl }

unblank : (line : List ℕ) (others : List (List ℕ)) → is_blank_line line ≡ false →
    (until_blank (line ∷ others) ≡ line ∷ until_blank others)
    × (from_blank (line ∷ others) ≡ from_blank others)
unfolding until_blank from_blank
unblank line others h = (rw h refl, rw h refl)

pub taken_more : (text done rest line after : List ℕ) → IsTaken text done rest →
    rest ≡ line ++ after → text_lines rest ≡ line ∷ text_lines after → text_lines line ≡ line ∷ []
    → (are_whole_lines line ≡ true) ⊎ (after ≡ []) → is_blank_line line ≡ false → 0 < length rest →
    IsTaken text (done ++ line) after
taken_more text done rest line after taken whole lines single ended h some =
    let done_whole : are_whole_lines done ≡ true = elim taken.ended [
      | inl e ↦ e
      | inr e ↦
          absurd (omega (arith, ap length e))
    ] in
    let step = unblank line (text_lines after) h in
    let block : until_blank (text_lines rest) ≡ line ∷ until_blank (text_lines after) =
    ap until_blank lines ∙ step.0 in
    let both : text_lines (done ++ line) ≡ text_lines done ++ (line ∷ []) = text_lines-append done
    line done_whole ∙ ap (λ ls. text_lines done ++ ls) single in
    record {
      whole = passed_line text rest line after done taken.whole whole;
      ended = elim ended [
        | inl e ↦ inl (are_whole_lines-append done line done_whole e)
        | inr e ↦
            inr e
      ];
      block = taken.block ∙ (ap (λ ls. text_lines done ++ ls) block
          ∙ (sym (append_assoc (text_lines done) (line ∷ []) (until_blank (text_lines after)))
          ∙ ap (λ ls. ls ++ until_blank (text_lines after)) (sym both)));
      after = taken.after ∙ (ap from_blank lines ∙ step.1);
    }

-- a rest that is empty or begins with a blank line
pub record IsAtBlank (rest : List ℕ) : Type 0 where
  pub none : until_blank (text_lines rest) ≡ []
  pub all : from_blank (text_lines rest) ≡ text_lines rest

pub at_end : (rest : List ℕ) → length rest ≡ 0 → IsAtBlank rest
unfolding text_lines until_blank from_blank
at_end [] h = record { none = refl; all = refl }
at_end (b ∷ bs) h = absurd (omega arith)

pub at_blank : (rest line after : List ℕ) → text_lines rest ≡ line ∷ text_lines after →
    is_blank_line line ≡ true → IsAtBlank rest
unfolding until_blank from_blank
at_blank rest line after lines h = record {
  none = rw lines (rw h refl);
  all = rw lines (rw h refl);
}

-- where the search stopped, the text is cut there
pub taken_prefix : (text done rest prefix : List ℕ) → IsTaken text done rest → IsAtBlank rest →
    prefix ≡ take (length text - length rest) text → text_lines prefix ≡ until_blank
    (text_lines text)
taken_prefix text done rest prefix taken stop cut =
    let lengths : length text ≡ length done + length rest = ap length taken.whole ∙ length-append
    done rest in
    let is : prefix ≡ done = cut ∙ (ap (take (length text - length rest)) taken.whole ∙ take_at
    done rest (length text - length rest) (omega arith)) in
    ap text_lines is
    ∙ (sym (append-nil (text_lines done)) ∙ (ap (λ ls. text_lines done ++ ls) (sym stop.none)
    ∙ sym taken.block))

pub taken_back : (text done rest back : List ℕ) → IsTaken text done rest → IsAtBlank rest →
    back ≡ drop (length text - length rest) text → text_lines back ≡ from_blank (text_lines text)
taken_back text done rest back taken stop cut =
    let lengths : length text ≡ length done + length rest = ap length taken.whole ∙ length-append
    done rest in
    let is : back ≡ rest = cut ∙ (ap (drop (length text - length rest)) taken.whole ∙ drop_at done
    rest (length text - length rest) (omega arith)) in
    ap text_lines is ∙ (sym stop.all ∙ sym taken.after)

pub blocks_none : (rest : List ℕ) → length rest ≡ 0 → blocks (text_lines rest) ≡ []
unfolding text_lines blocks from_unskipped
blocks_none [] h = refl
blocks_none (b ∷ bs) h = absurd (omega arith)

-- the lines of the first block, which begins a text
pub record IsFront (lines : List (List ℕ)) : Type 0 where
  pub starts : starts_block (until_blank lines) ≡ true
  pub first : blocks lines ≡ until_blank lines ∷ blocks (from_blank lines)

prefix_by : (t s : Bool) (line : List ℕ) (others : List (List ℕ)) → is_blank_line line ≡ t →
    is_skipped_line line ≡ s → (not t && not s) ≡ true → IsFront (line ∷ others)
prefix_by true s line others b k h = cc
prefix_by false true line others b k h = cc
prefix_by false false line others b k h = record {
  starts = let e : until_blank (line ∷ others) ≡ line ∷ until_blank others =
      (unblank line others b).0 in rw e (rw (b, k) refl);
  first = blocks_prefix line others b k;
}

pub head_of : (lines : List (List ℕ)) → starts_block lines ≡ true → IsFront lines
head_of [] h = cc
head_of (line ∷ others) h = prefix_by (is_blank_line line) (is_skipped_line line) line others refl
    refl h

-- a text that begins with a line of a paragraph is not empty
pub some_bytes : (block : List ℕ) → starts_block (text_lines block) ≡ true → 0 < length block
unfolding text_lines
some_bytes [] h = cc
some_bytes (b ∷ bs) h = omega arith

-- the place in a text after a block of its rest
pub record IsPlace (text : List ℕ) (from : ℕ) (after : List ℕ) : Type 0 where
  pub past : from < length text - length after
  pub rest : drop (length text - length after) text ≡ after

pub place_after : (text : List ℕ) (from : ℕ) (prefix rest block after : List ℕ) →
    from ≤ length text → drop from text ≡ prefix ++ rest → rest ≡ block ++ after →
    0 < length block → IsPlace text from after
place_after text from prefix rest block after within left cut some =
    let all : drop from text ≡ (prefix ++ block) ++ after = passed_line (drop from text) rest block
    after prefix left cut in
    let whole : text ≡ (take from text ++ (prefix ++ block)) ++ after =
    sym (take-append-drop from text)
    ∙ (ap (λ r. take from text ++ r) all ∙ sym (append_assoc (take from text) (prefix ++ block)
    after))
    in
    let lengths : length text ≡ (from + (length prefix + length block)) + length after =
    ap length whole ∙ (length-append (take from text ++ (prefix ++ block)) after
    ∙ ap (λ n. n + length after) (length-append (take from text) (prefix ++ block)
    ∙ ap (λ n. n + length (prefix ++ block)) (length-take-le from text within)
    ∙ ap (λ n. from + n) (length-append prefix block)))
    in record {
      past = omega arith;
      rest = ap (drop (length text - length after)) whole ∙ drop_at
          (take from text ++ (prefix ++ block)) after (length text - length after)
          (omega (
            arith,
            lengths,
            length-append (take from text) (prefix ++ block),
            length-append prefix block,
            length-take-le from text within,
          ));
    }

-- what is found where the text from a place on is cut into what stands before its first block, the
-- block, and what follows it
pub taken_at : (text : List ℕ) (from : ℕ) (left rest block after : List ℕ) → from ≤ length text →
    drop from text ≡ left
    → (prefix : List ℕ) × (left ≡ prefix ++ rest) → blocks (text_lines rest)
    ≡ blocks (text_lines left) → (rest ≡ []) ⊎ (starts_block (text_lines rest) ≡ true) →
    0 < length rest
    → rest ≡ block ++ after → text_lines block ≡ until_blank (text_lines rest) → text_lines after
    ≡ from_blank (text_lines rest)
    → (from < length text - length after) × (length text - length after ≤ length text)
    × (starts_block (text_lines block) ≡ true)
    × (blocks (text_lines (drop from text)) ≡ text_lines block
    ∷ blocks (text_lines (drop (length text - length after) text)))
taken_at text from left rest block after within is_left prefix same starts some cut is_block
    is_after =
    let begins : starts_block (text_lines rest) ≡ true =
    elim starts [ inl e ↦ absurd (omega (arith, ap length e)) | inr h ↦ h ] in
    let first : IsFront (text_lines rest) = head_of (text_lines rest) begins in
    let begun : starts_block (text_lines block) ≡ true = ap starts_block is_block ∙ first.starts in
    let place : IsPlace text from after = place_after text from prefix.0 rest block after within
    (is_left ∙ prefix.1) cut (some_bytes block begun) in
    let found : blocks (text_lines rest) ≡ text_lines block ∷ blocks (text_lines after) =
    cc (first.first, is_block, is_after) in (
      place.past,
      omega arith,
      begun,
      ap (λ bs. blocks (text_lines bs)) is_left
          ∙ (sym same ∙ (found ∙ ap (λ bs. text_lines block ∷ blocks (text_lines bs))
          (sym place.rest))),
    )

pub no_blocks : blocks [] ≡ []
unfolding blocks from_unskipped
no_blocks = refl

some_onto : (line : List ℕ) (parts : List (List (List ℕ))) → onto_first line parts ≢ []
some_onto line [] e = cc
some_onto line (part ∷ parts) e = cc

split_onto : (line : List ℕ) (parts more : List (List (List ℕ))) → parts ≢ [] →
    onto_first line (parts ++ more) ≡ onto_first line parts ++ more
split_onto line [] more h = absurd (h refl)
split_onto line (part ∷ parts) more h = refl

some_part_by : (t : Bool) (line : List ℕ) (others : List (List ℕ)) → is_blank_line line ≡ t →
    slice_split is_blank_line (line ∷ others) ≢ []
some_part_by true line others h = rw h (λ e. cc)
some_part_by false line others h = rw h (some_onto line (slice_split is_blank_line others))

some_part : (lines : List (List ℕ)) → slice_split is_blank_line lines ≢ []
some_part [] = λ e. cc
some_part (line ∷ others) = some_part_by (is_blank_line line) line others refl

split_append_by : (t : Bool) (line : List ℕ) (others rest : List (List ℕ))
    (more : List (List (List ℕ))) → is_blank_line line ≡ t
    → slice_split is_blank_line (others ++ rest) ≡ slice_split is_blank_line others ++ more
    → slice_split is_blank_line ((line ∷ others) ++ rest) ≡ slice_split is_blank_line
    (line ∷ others) ++ more
split_append_by true line others rest more h rec = rw h (ap (λ ps. [] ∷ ps) rec)
split_append_by false line others rest more h rec =
    rw h (ap (onto_first line) rec ∙ split_onto line (slice_split is_blank_line others) more
    (some_part others))

split_append : (lines : List (List ℕ)) (blank : List ℕ) (others : List (List ℕ)) →
    is_blank_line blank ≡ true
    → slice_split is_blank_line (lines ++ blank ∷ others) ≡ slice_split is_blank_line lines ++
    slice_split is_blank_line others
split_append [] blank others h = rw h refl
split_append (line ∷ lines) blank others h = split_append_by (is_blank_line line) line lines
    (blank ∷ others) (slice_split is_blank_line others) refl (split_append lines blank others h)

-- a blank line keeps the blocks before and after it apart
pub blocks_apart : (lines : List (List ℕ)) (blank : List ℕ) (others : List (List ℕ)) →
    is_blank_line blank ≡ true → blocks (lines ++ blank ∷ others) ≡ blocks lines ++ blocks others
unfolding blocks
blocks_apart lines blank others h =
    ap (λ ps. filter has_line (map from_unskipped ps)) (split_append lines blank others h)
    ∙ (ap (filter has_line) (map-append from_unskipped (slice_split is_blank_line lines)
    (slice_split is_blank_line others))
    ∙ filter-append has_line (map from_unskipped (slice_split is_blank_line lines))
    (map from_unskipped (slice_split is_blank_line others)))
