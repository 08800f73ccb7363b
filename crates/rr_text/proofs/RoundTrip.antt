-- Canonical text spells its paragraph again: for `laws`, and for rows and dumps that are read.
use Rattle.std.proofs.Common.{◌≡◌, ℕ, ◌<◌, ◌≤◌, Bool, true, false, List, [], ◌∷◌, ◌++◌}
use Rattle.std.proofs.Common.{length, map, refl, sym, ap, ◌∙◌, arith, None, Ok}
use Rattle.std.proofs.lemmas.List.{append-nil}
use Rattle.std.specs.List.{list_any, list_all, flat_map, AllByRecursion}
use Rattle.std.specs.Char.{is_ascii_alphabetic}
use Rattle.rr_text.specs.declared.line.LineKind.TheVariants.{Continuation, Opening}
use Rattle.rr_bytes.specs.LetterCase.{lowered}
use Rattle.rr_bytes.specs.NameBytes.{begins, is_attribute_name, is_name_byte}
use Rattle.rr_text.specs.Bytes.{is_refused, is_colon}
use Rattle.rr_text.specs.Lines.{text_lines, are_whole_lines, IsWholeLine, line_kind, is_blank_line}
use Rattle.rr_text.specs.Lines.{is_skipped_line}
use Rattle.rr_text.specs.Faults.{written_name, opening_fault, fault_by_kind, line_fault}
use Rattle.rr_text.specs.Faults.{later_fault, block_fault}
use Rattle.rr_text.specs.Entries.{added_value, opened_value, continued, block_fields, opened_field}
use Rattle.rr_text.specs.Entries.{block_entry, entries, size_limit}
use Rattle.rr_text.specs.Blocks.{blocks, from_blank}
use Rattle.rr_text.specs.PrivateParts.{until_blank}
use Rattle.rr_text.proofs.BlockLemmas.{blocks_prefix, no_blocks}
use Rattle.rr_text.proofs.EntryLemmas.{entry_small, entries_joined}
use Rattle.rr_text.specs.Fields.{Field, IsLine, AreFields}
use Rattle.rr_text.specs.CanonicalText.{ended, opening_line, further_line, value_text, field_text}
use Rattle.rr_text.specs.CanonicalText.{canonical}
use Rattle.rr_text.proofs.LineLemmas.{are_whole_lines-append}
use Rattle.rr_text.proofs.SoundLemmas.{not_false}
use Rattle.rr_text.proofs.CanonicalLines.{ended_whole, further_lines, value_lines, canonical_lines}
use Rattle.rr_text.proofs.CanonicalLines.{any_none, name_no_refused, any_append, any_opening}
use Rattle.rr_text.proofs.CanonicalLines.{any_further, name_bytes, name_begins}
use Rattle.rr_text.proofs.CanonicalLines.{canonical_text_lines, opening_kind, further_kind}
use Rattle.rr_text.proofs.CanonicalLines.{added_value_is, IsOpeningOf, opening_of}

-- what canonical lines spell

continued_one : (line : List ℕ) (others : List (List ℕ)) → line_kind line ≡ Continuation →
    continued (line ∷ others) ≡ added_value line ∷ continued others
unfolding continued
continued_one line others h = rw h refl

fields_one : (line : List ℕ) (others : List (List ℕ)) → line_kind line ≡ Continuation →
    block_fields (line ∷ others) ≡ block_fields others
unfolding block_fields
fields_one line others h = rw h refl

continued_none : (line : List ℕ) (others : List (List ℕ)) → line_kind line ≡ Opening →
    continued (line ∷ others) ≡ []
unfolding continued
continued_none line others h = rw h refl

fields_opened : (line : List ℕ) (others : List (List ℕ)) → line_kind line ≡ Opening →
    block_fields (line ∷ others) ≡ opened_field line (continued others) ∷ block_fields others
unfolding block_fields
fields_opened line others h = rw h refl

pub further_continued : (further rest : List (List ℕ)) → AllByRecursion IsLine further →
    continued (further_lines further ++ rest) ≡ further ++ continued rest
unfolding further_lines
further_continued [] rest good = refl
further_continued (line ∷ others) rest good =
    continued_one _ (further_lines others ++ rest) (further_kind line good.0).0
    ∙ (ap (λ l. l ∷ continued (further_lines others ++ rest)) (added_value_is line good.0.trimmed)
    ∙ ap (λ ls. line ∷ ls) (further_continued others rest good.1))

further_fields : (further rest : List (List ℕ)) → AllByRecursion IsLine further →
    block_fields (further_lines further ++ rest) ≡ block_fields rest
unfolding further_lines
further_fields [] rest good = refl
further_fields (line ∷ others) rest good = fields_one _ (further_lines others ++ rest)
    (further_kind line good.0).0 ∙ further_fields others rest good.1

-- the lines of one attribute before others that continue nothing
field_by : (name : List ℕ) (lines : List (List ℕ)) (rest : List (List ℕ)) → list_all is_name_byte
    name ≡ true → begins is_ascii_alphabetic name ≡ true → lowered name ≡ name
    → 0 < length lines → AllByRecursion IsLine lines → continued rest ≡ []
    → (continued (value_lines name lines ++ rest) ≡ [])
    × (block_fields (value_lines name lines ++ rest) ≡ record { name = name; lines = lines }
    ∷ block_fields rest)
unfolding value_lines
field_by name [] rest bytes letter lower some good none = absurd (omega arith)
field_by name (first ∷ further) rest bytes letter lower some good none =
    let line = ended (opening_line name first) in
    let kind : line_kind line ≡ Opening = (opening_kind name first letter).0 in
    let opens : IsOpeningOf name first line = opening_of name first bytes good.0.trimmed in
    let make = λ (n : List ℕ) (ls : List (List ℕ)). let field : Field =
    record { name = n; lines = ls } in field in
    let more : continued (further_lines further ++ rest) ≡ further = further_continued further rest
    good.1 ∙ (ap (λ ls. further ++ ls) none ∙ append-nil further) in
    let named : lowered (written_name line) ≡ name = ap (lowered) opens.name_is ∙ lower in
    let field : opened_field line (continued (further_lines further ++ rest)) ≡ make name
    (first ∷ further) =
    ap (λ n. make n (opened_value line ∷ continued (further_lines further ++ rest))) named
    ∙ (ap (λ v. make name (v ∷ continued (further_lines further ++ rest))) opens.value_is
    ∙ ap (λ ls. make name (first ∷ ls)) more)
    in (
      continued_none line (further_lines further ++ rest) kind,
      fields_opened line (further_lines further ++ rest) kind
          ∙ (ap (λ f. f ∷ block_fields (further_lines further ++ rest)) field
          ∙ ap (λ fs. make name (first ∷ further) ∷ fs) (further_fields further rest good.1)),
    )

canonical_read : (fields : List Field) → AreFields fields →
    (continued (canonical_lines fields) ≡ []) × (block_fields (canonical_lines fields) ≡ fields)
unfolding canonical_lines continued block_fields
canonical_read [] good = (refl, refl)
canonical_read (field ∷ others) good =
    let rest = canonical_read others good.1 in
    let one = field_by field.name field.lines (canonical_lines others) (name_bytes field good.0)
    (name_begins field good.0) good.0.lower good.0.some good.0.good rest.0 in
    (one.0, one.1 ∙ ap (λ fs. field ∷ fs) rest.1)

-- canonical text gives its attributes back
pub canonical_fields : (fields : List Field) → AreFields fields →
    block_fields (text_lines (canonical fields)) ≡ fields
canonical_fields fields good = ap block_fields (canonical_text_lines fields good)
    ∙ (canonical_read fields good).1

pub canonical_determines : (a b : List Field) → AreFields a → AreFields b → canonical a ≡ canonical
    b → a ≡ b
canonical_determines a b good right same = sym (canonical_fields a good)
    ∙ (ap (λ text. block_fields (text_lines text)) same ∙ canonical_fields b right)

-- canonical lines have no fault

clean_ended : (line : List ℕ) → list_any is_refused line ≡ false → list_any is_refused (ended line)
    ≡ false
clean_ended line h = any_append is_refused line (10 ∷ []) h refl

opening_faultless : (line name : List ℕ) → list_any is_colon line ≡ true → written_name line
    ≡ name → is_attribute_name name ≡ true → opening_fault line ≡ None
unfolding opening_fault
opening_faultless line name colon is named =
    let good : is_attribute_name (written_name line) ≡ true = ap is_attribute_name is ∙ named in
    rw (colon, good) refl

opening_clean : (is_first : Bool) (line : List ℕ) → line_kind line ≡ Opening →
    list_any is_refused line ≡ false → opening_fault line ≡ None → line_fault is_first line ≡ None
unfolding line_fault
opening_clean is_first line kind clean none = ap (fault_by_kind is_first line) kind ∙ rw clean none

further_clean : (line : List ℕ) → line_kind line ≡ Continuation → list_any is_refused line
    ≡ false → line_fault false line ≡ None
unfolding line_fault
further_clean line kind clean = ap (fault_by_kind false line) kind ∙ rw clean refl

further_faultless : (further rest : List (List ℕ)) → AllByRecursion IsLine further →
    later_fault rest ≡ None → later_fault (further_lines further ++ rest) ≡ None
unfolding further_lines later_fault
further_faultless [] rest good none = none
further_faultless (line ∷ others) rest good none =
    let clean : list_any is_refused (ended (further_line line)) ≡ false =
    clean_ended (further_line line) (any_further is_refused line refl refl
    (not_false _ good.0.clean)) in
    let one : line_fault false (ended (further_line line)) ≡ None =
    further_clean (ended (further_line line)) (further_kind line good.0).0 clean in
    rw one (further_faultless others rest good.1 none)

opened_faultless : (is_first : Bool) (name first : List ℕ) → is_attribute_name name ≡ true →
    list_all is_name_byte name ≡ true → begins is_ascii_alphabetic name ≡ true → IsLine first
    → line_fault is_first (ended (opening_line name first)) ≡ None
opened_faultless is_first name first named bytes letter good =
    let line = ended (opening_line name first) in
    let opens : IsOpeningOf name first line = opening_of name first bytes good.trimmed in
    let clean : list_any is_refused line ≡ false = clean_ended (opening_line name first)
    (any_opening is_refused name first refl refl (any_none is_refused name_no_refused name bytes)
    (not_false _ good.clean))
    in opening_clean is_first line (opening_kind name first letter).0 clean
    (opening_faultless line name opens.colon opens.name_is named)

value_faultless : (name : List ℕ) (lines rest : List (List ℕ)) → is_attribute_name name ≡ true →
    list_all is_name_byte name ≡ true → begins is_ascii_alphabetic name ≡ true →
    AllByRecursion IsLine lines
    → later_fault rest ≡ None → later_fault (value_lines name lines ++ rest) ≡ None
unfolding value_lines later_fault
value_faultless name [] rest named bytes letter good none = none
value_faultless name (first ∷ further) rest named bytes letter good none =
    let one : line_fault false (ended (opening_line name first)) ≡ None = opened_faultless false
    name first named bytes letter good.0 in
    rw one (further_faultless further rest good.1 none)

canonical_later : (fields : List Field) → AreFields fields → later_fault (canonical_lines fields)
    ≡ None
unfolding canonical_lines later_fault
canonical_later [] good = refl
canonical_later (field ∷ others) good =
    value_faultless field.name field.lines (canonical_lines others) good.0.named
    (name_bytes field good.0) (name_begins field good.0) good.0.good
    (canonical_later others good.1)

first_faultless : (name : List ℕ) (lines rest : List (List ℕ)) → is_attribute_name name ≡ true →
    list_all is_name_byte name ≡ true → begins is_ascii_alphabetic name ≡ true → 0 < length lines →
    AllByRecursion IsLine lines
    → later_fault rest ≡ None → block_fault (value_lines name lines ++ rest) ≡ None
unfolding value_lines block_fault
first_faultless name [] rest named bytes letter some good none = absurd (omega arith)
first_faultless name (first ∷ further) rest named bytes letter some good none =
    let one : line_fault true (ended (opening_line name first)) ≡ None = opened_faultless true name
    first named bytes letter good.0 in
    rw one (further_faultless further rest good.1 none)

canonical_block : (fields : List Field) → AreFields fields → block_fault (canonical_lines fields)
    ≡ None
unfolding canonical_lines block_fault
canonical_block [] good = refl
canonical_block (field ∷ others) good =
    first_faultless field.name field.lines (canonical_lines others) good.0.named
    (name_bytes field good.0) (name_begins field good.0) good.0.some good.0.good
    (canonical_later others good.1)

-- canonical text has no fault
pub canonical_faultless : (fields : List Field) → AreFields fields →
    block_fault (text_lines (canonical fields)) ≡ None
canonical_faultless fields good = ap block_fault (canonical_text_lines fields good)
    ∙ canonical_block fields good

-- canonical lines are one block

NoBlank : List (List ℕ) → Type 0
NoBlank lines = AllByRecursion (λ line. is_blank_line line ≡ false) lines

no_blank_append : (xs ys : List (List ℕ)) → NoBlank xs → NoBlank ys → NoBlank (xs ++ ys)
unfolding NoBlank
no_blank_append [] ys h e = e
no_blank_append (x ∷ xs) ys h e = (h.0, no_blank_append xs ys h.1 e)

further_no_blank : (further : List (List ℕ)) → AllByRecursion IsLine further →
    NoBlank (further_lines further)
unfolding NoBlank further_lines
further_no_blank [] good = tt
further_no_blank (line ∷ others) good =
    ((further_kind line good.0).1, further_no_blank others good.1)

value_no_blank : (name : List ℕ) (lines : List (List ℕ)) → begins is_ascii_alphabetic name ≡ true →
    AllByRecursion IsLine lines → NoBlank (value_lines name lines)
unfolding NoBlank value_lines
value_no_blank name [] letter good = tt
value_no_blank name (first ∷ further) letter good =
    ((opening_kind name first letter).1, further_no_blank further good.1)

canonical_no_blank : (fields : List Field) → AreFields fields → NoBlank (canonical_lines fields)
unfolding NoBlank canonical_lines
canonical_no_blank [] good = tt
canonical_no_blank (field ∷ others) good =
    no_blank_append (value_lines field.name field.lines) (canonical_lines others)
    (value_no_blank field.name field.lines (name_begins field good.0) good.0.good)
    (canonical_no_blank others good.1)

one_block : (lines : List (List ℕ)) → NoBlank lines → (until_blank lines ≡ lines)
    × (from_blank lines ≡ [])
unfolding NoBlank until_blank from_blank
one_block [] h = (refl, refl)
one_block (line ∷ others) h = let rest = one_block others h.1 in let first : is_blank_line line
    ≡ false = h.0 in (rw first (ap (λ ls. line ∷ ls) rest.0), rw first rest.1)

blocks_alone : (line : List ℕ) (others : List (List ℕ)) → NoBlank (line ∷ others) →
    is_skipped_line line ≡ false → blocks (line ∷ others) ≡ (line ∷ others) ∷ []
unfolding NoBlank
blocks_alone line others h s =
    let alone = one_block (line ∷ others) h in
    blocks_prefix line others h.0 s ∙ (ap (λ ls. ls ∷ blocks (from_blank (line ∷ others))) alone.0
    ∙ ap (λ ls. (line ∷ others) ∷ blocks ls) alone.1 ∙ ap (λ bs. (line ∷ others) ∷ bs)
    no_blocks)

value_blocks : (name : List ℕ) (lines rest : List (List ℕ)) → begins is_ascii_alphabetic name
    ≡ true → 0 < length lines → AllByRecursion IsLine lines → NoBlank rest
    → blocks (value_lines name lines ++ rest) ≡ (value_lines name lines ++ rest) ∷ []
unfolding value_lines NoBlank
value_blocks name [] rest letter some good h = absurd (omega arith)
value_blocks name (first ∷ further) rest letter some good h =
    blocks_alone (ended (opening_line name first)) (further_lines further ++ rest) (
      (opening_kind name first letter).1,
      no_blank_append (further_lines further) rest
          (further_no_blank further good.1) h,
    ) (opening_kind name first letter).2

canonical_blocks : (fields : List Field) → 0 < length fields → AreFields fields →
    blocks (canonical_lines fields) ≡ canonical_lines fields ∷ []
unfolding canonical_lines
canonical_blocks [] some good = absurd (omega arith)
canonical_blocks (field ∷ others) some good =
    value_blocks field.name field.lines (canonical_lines others) (name_begins field good.0)
    good.0.some good.0.good (canonical_no_blank others good.1)

pub canonical_spells : (fields : List Field) → 0 < length fields → AreFields fields →
    length (canonical fields) ≤ size_limit → entries (canonical fields) ≡ Ok fields ∷ []
unfolding entries
canonical_spells fields some good small =
    let lines = canonical_text_lines fields good in
    let all : blocks (text_lines (canonical fields)) ≡ text_lines (canonical fields) ∷ [] =
    ap blocks lines ∙ (canonical_blocks fields some good ∙ ap (λ ls. ls ∷ []) (sym lines)) in
    let entry : block_entry (text_lines (canonical fields)) ≡ Ok fields =
    entry_small (canonical fields) None small (sym (canonical_faultless fields good))
    ∙ ap (λ fs. Ok fs) (canonical_fields fields good)
    in ap (map block_entry) all ∙ ap (λ e. e ∷ []) entry

further_whole : (further : List (List ℕ)) →
    are_whole_lines (flat_map (λ line. ended (further_line line)) further) ≡ true
unfolding are_whole_lines
further_whole [] = refl
further_whole (line ∷ others) = are_whole_lines-append (ended (further_line line)) _
    (ended_whole (further_line line)) (further_whole others)

value_whole : (name : List ℕ) (lines : List (List ℕ)) → are_whole_lines (value_text name lines)
    ≡ true
unfolding are_whole_lines
value_whole name [] = refl
value_whole name (first ∷ further) = are_whole_lines-append (ended (opening_line name first)) _
    (ended_whole (opening_line name first)) (further_whole further)

canonical_whole : (fields : List Field) → are_whole_lines (canonical fields) ≡ true
unfolding are_whole_lines canonical
canonical_whole [] = refl
canonical_whole (field ∷ others) = are_whole_lines-append (field_text field) (canonical others)
    (value_whole field.name field.lines) (canonical_whole others)

empty_line : IsWholeLine (10 ∷ [])
unfolding text_lines are_whole_lines
empty_line = record { single = refl; ended = refl }

pub canonical_leads : (fields : List Field) (rest : List ℕ) → 0 < length fields →
    AreFields fields → length (canonical fields) ≤ size_limit
    → entries (canonical fields ++ 10 ∷ rest) ≡ Ok fields ∷ entries rest
canonical_leads fields rest some good small =
    entries_joined (canonical fields) (10 ∷ []) rest (canonical_whole fields) empty_line refl
    ∙ ap (λ es. es ++ entries rest) (canonical_spells fields some good small)

-- what a reader makes of a text that is canonical
pub canonical_again : (text : List ℕ) (fields : List Field) → AreFields fields → canonical fields
    ≡ text → (block_fault (text_lines text) ≡ None) × (block_fields (text_lines text) ≡ fields)
canonical_again text fields good same = (
  ap (λ t. block_fault (text_lines t)) (sym same) ∙ canonical_faultless fields good,
  ap (λ t. block_fields (text_lines t)) (sym same) ∙ canonical_fields fields good,
)
