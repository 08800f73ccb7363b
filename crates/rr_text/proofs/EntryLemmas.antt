-- Lemmas on what the lines of a block give: for the entries of texts, here and in the crates above.
use Rattle.std.proofs.Common.{◌≡◌, ℕ, ◌<◌, ◌≤◌, Bool, true, false, List, [], ◌∷◌, ◌++◌, length}
use Rattle.std.proofs.Common.{drop, map, refl, sym, ap, ◌∙◌, arith, Option, Err, nat_lt}
use Rattle.std.proofs.Common.{if◌then◌else◌}
use Rattle.std.proofs.lemmas.List.{map-append}
use Rattle.std.specs.List.{concat, onto_first}
use Rattle.std.proofs.lemmas.Bool.Decides.{nat_tests}
use Rattle.rr_text.specs.declared.text_fault.TextFault.{TextFault}
use Rattle.rr_text.specs.declared.text_fault.TextFault.TheVariants.{TooLarge}
use Rattle.rr_text.specs.Faults.{block_fault}
use Rattle.rr_text.specs.declared.line.LineKind.{LineKind}
use Rattle.rr_text.specs.declared.line.LineKind.TheVariants.{Blank, Skipped, Continuation, Opening}
use Rattle.rr_bytes.specs.Blanks.{is_line_feed}
use Rattle.rr_bytes.specs.Trims.{trim_end, trim_start}
use Rattle.rr_text.specs.Lines.{text_lines, are_whole_lines, IsWholeLine, is_blank_line}
use Rattle.rr_text.specs.Lines.{is_skipped_line, line_kind}
use Rattle.rr_text.specs.Blocks.{blocks}
use Rattle.rr_text.specs.PrivateParts.{added_lines, opens_attribute}
use Rattle.rr_text.proofs.BlockLemmas.{blocks_apart, blocks_blank, blocks_skipped}
use Rattle.rr_text.proofs.LineLemmas.{text_lines-append}
use Rattle.rr_text.specs.Entries.{added_value, continued, opened_field, block_fields, block_entry}
use Rattle.rr_text.specs.Entries.{entries, size_limit, unless_fault}

pub added_empty : (line : List ℕ) → length line ≡ 0 → added_value line ≡ line
unfolding trim_start trim_end
added_empty [] h = refl
added_empty (b ∷ bs) h = absurd (omega arith)

-- what a line that opens no attribute gives to the attribute before it and to those after it
pub record IsFurther (line : List ℕ) (kind : LineKind) (others : List (List ℕ)) : Type 0 where
  pub lines : continued (line ∷ others) ≡ added_lines line kind ++ continued others
  pub fields : block_fields (line ∷ others) ≡ block_fields others

further_by : (kind : LineKind) (line : List ℕ) (others : List (List ℕ)) → line_kind line ≡ kind →
    opens_attribute kind ≡ false → IsFurther line kind others
unfolding continued block_fields
further_by Blank line others e h = record { lines = rw e refl; fields = rw e refl }
further_by Skipped line others e h = record { lines = rw e refl; fields = rw e refl }
further_by Continuation line others e h = record { lines = rw e refl; fields = rw e refl }
further_by Opening line others e h = cc

pub further : (line : List ℕ) (kind : LineKind) (others : List (List ℕ)) → kind ≡ line_kind line →
    opens_attribute kind ≡ false → IsFurther line kind others
further line kind others e h = further_by kind line others (sym e) h

pub opened_kind : (kind : LineKind) → opens_attribute kind ≡ true → kind ≡ Opening
opened_kind Blank h = cc
opened_kind Skipped h = cc
opened_kind Continuation h = cc
opened_kind Opening h = refl

-- what a line that opens an attribute gives
pub record IsOpened (line : List ℕ) (others : List (List ℕ)) : Type 0 where
  pub lines : continued (line ∷ others) ≡ []
  pub fields : block_fields (line ∷ others) ≡ opened_field line (continued others) ∷ block_fields
      others

pub opened : (line : List ℕ) (kind : LineKind) (others : List (List ℕ)) → kind ≡ line_kind line →
    opens_attribute kind ≡ true → IsOpened line others
unfolding continued block_fields
opened line kind others e h =
    let is : line_kind line ≡ Opening = sym e ∙ opened_kind kind h in
    record { lines = rw is refl; fields = rw is refl }

pub entries_none : (text : List ℕ) → length text ≡ 0 → (continued (text_lines text) ≡ [])
    × (block_fields (text_lines text) ≡ [])
unfolding text_lines continued block_fields
entries_none [] h = (refl, refl)
entries_none (b ∷ bs) h = absurd (omega arith)

concat_onto : (b : ℕ) (lines : List (List ℕ)) → concat (onto_first b lines) ≡ b ∷ concat lines
concat_onto b [] = refl
concat_onto b (line ∷ others) = refl

concat_by : (t : Bool) (b : ℕ) (bs : List ℕ) → is_line_feed b ≡ t → concat (text_lines bs) ≡ bs →
    concat (text_lines (b ∷ bs)) ≡ b ∷ bs
unfolding text_lines
concat_by true b bs h rec = rw h (ap (λ r. b ∷ r) rec)
concat_by false b bs h rec = rw h (concat_onto b (text_lines bs) ∙ ap (λ r. b ∷ r) rec)

-- a text is its lines one after another
pub concat-text_lines : (text : List ℕ) → concat (text_lines text) ≡ text
unfolding text_lines
concat-text_lines [] = refl
concat-text_lines (b ∷ bs) = concat_by (is_line_feed b) b bs refl (concat-text_lines bs)

size_of_block : (block : List ℕ) → length (concat (text_lines block)) ≡ length block
size_of_block block = ap length (concat-text_lines block)

entry_by : (t : Bool) (block : List ℕ) → nat_lt size_limit (length block) ≡ t
    → block_entry (text_lines block)
    ≡ (if t then Err TooLarge else unless_fault (block_fault (text_lines block))
    (block_fields (text_lines block)))
unfolding block_entry
entry_by t block h = rw (size_of_block block, h) refl

pub entry_large : (block : List ℕ) → size_limit < length block → block_entry (text_lines block)
    ≡ Err TooLarge
entry_large block h = entry_by true block (grind (arith, nat_tests))

pub entry_small : (block : List ℕ) (fault : Option TextFault) → length block ≤ size_limit →
    fault ≡ block_fault (text_lines block)
    → block_entry (text_lines block) ≡ unless_fault fault (block_fields (text_lines block))
entry_small block fault h e = entry_by false block (grind (arith, nat_tests))
    ∙ ap (λ f. unless_fault f (block_fields (text_lines block))) (sym e)

-- a text without a block spells nothing
pub entries_empty : (text : List ℕ) → blocks (text_lines text) ≡ [] → entries text ≡ []
unfolding entries
entries_empty text h = ap (map block_entry) h

-- the entry of the first block comes before those of the rest
pub entries_more : (text after : List ℕ) (block : List (List ℕ)) → blocks (text_lines text) ≡ block
    ∷ blocks (text_lines after) → entries text ≡ block_entry block ∷ entries after
unfolding entries
entries_more text after block h = ap (map block_entry) h

pub entries_fault : (text after : List ℕ) (block : List (List ℕ)) (fault : TextFault) →
    blocks (text_lines text) ≡ block ∷ blocks (text_lines after) → block_entry block ≡ Err fault
    → entries text ≡ Err fault ∷ drop 1 (entries text)
entries_fault text after block fault h e = let all = entries_more text after block h in
    rw (all, e) refl

pub entries_some : (text after : List ℕ) (block : List (List ℕ)) → blocks (text_lines text) ≡ block
    ∷ blocks (text_lines after) → 0 < length (entries text)
entries_some text after block h = rw (entries_more text after block h) (omega arith)

pub entries_joined : (prefix blank back : List ℕ) → are_whole_lines prefix ≡ true →
    IsWholeLine blank → is_blank_line blank ≡ true → entries (prefix ++ (blank ++ back)) ≡ entries
    prefix ++ entries back
unfolding entries
entries_joined prefix blank back whole line h =
    let later : text_lines (blank ++ back) ≡ blank ∷ text_lines back = text_lines-append blank back
    line.ended ∙ ap (λ ls. ls ++ text_lines back) line.single in
    let lines : text_lines (prefix ++ (blank ++ back)) ≡ text_lines prefix ++ blank ∷ text_lines
    back =
    text_lines-append prefix (blank ++ back) whole ∙ ap (λ ls. text_lines prefix ++ ls) later
    in ap (λ ls. map block_entry (blocks ls)) lines
    ∙ (ap (map block_entry) (blocks_apart (text_lines prefix) blank (text_lines back) h)
    ∙ map-append block_entry (blocks (text_lines prefix)) (blocks (text_lines back)))

passed_line_blocks : (t : Bool) (line : List ℕ) (others : List (List ℕ)) → is_blank_line line ≡ t →
    is_skipped_line line ≡ true → blocks (line ∷ others) ≡ blocks others
passed_line_blocks true line others h s = blocks_blank line others h
passed_line_blocks false line others h s = blocks_skipped line others h s

pub entries_passed : (line rest : List ℕ) → IsWholeLine line → is_skipped_line line ≡ true →
    entries (line ++ rest) ≡ entries rest
unfolding entries
entries_passed line rest whole h =
    ap (λ ls. map block_entry (blocks ls)) (text_lines-append line rest whole.ended
    ∙ ap (λ ls. ls ++ text_lines rest) whole.single)
    ∙ ap (map block_entry) (passed_line_blocks (is_blank_line line) line (text_lines rest) refl h)
