-- The text that a paragraph is kept as: for `Paragraph`, its attributes, and what prints them.
-- Reading gives back what printing took, so that the text may be kept in place of the attributes.
-- It is long because inductions over lines, split by the four kinds of line, go both ways. The
-- kind of each line is handed on by hand. rr_text's `Paragraph`, `attributes`, `canonical`,
-- `printing`, `entry` and `comparing`, and rr_answer's `Forms`, need it.
use Rattle.std.proofs.Common.{◌≡◌, ◌==◌, ℕ, ◌+◌, ◌<◌, ◌≤◌, Bool, true, false, ◌&&◌, not, List, []}
use Rattle.std.proofs.Common.{◌∷◌, ◌++◌, length, map, filter, refl, sym, ap, ◌∙◌, arith}
use Rattle.std.proofs.Common.{append_assoc, None, if◌then◌else◌}
use Rattle.std.proofs.lemmas.List.{append-nil}
use Rattle.std.proofs.lemmas.List.Concat.{flat_map-append}
use Rattle.std.specs.List.{list_all, list_any, flat_map, concat, onto_first, AllByRecursion}
use Rattle.std.specs.Str.{bytes_eq}
use Rattle.std.specs.Cmp.Lexicographic.{bytes_decides}
use Rattle.std.specs.Char.{is_ascii_alphabetic, to_ascii_lowercase}
use Rattle.rr_text.specs.declared.line.LineKind.{LineKind}
use Rattle.rr_text.specs.declared.line.LineKind.TheVariants.{Blank, Skipped, Continuation, Opening}
use Rattle.rr_bytes.specs.Blanks.{is_line_feed}
use Rattle.rr_bytes.specs.LetterCase.{lowered}
use Rattle.rr_bytes.specs.NameBytes.{begins, is_name_byte}
use Rattle.rr_text.specs.Lines.{text_lines, line_kind}
use Rattle.rr_text.specs.Faults.{written_name, block_fault}
use Rattle.rr_text.specs.Entries.{opened_value, added_value, continued, block_fields}
use Rattle.rr_text.specs.Fields.{Field, IsLine, AreFields, has_name, with_value, fields_eq}
use Rattle.rr_text.specs.CanonicalText.{ended, opening_line, further_line, field_text, canonical}
use Rattle.rr_text.specs.PrivateParts.{added_lines, opens_attribute, opens_first, OpensOrEnds}
use Rattle.rr_text.specs.KeptText.{kept_field, kept_by, kept_fields, fields_in, IsKeptText}
use Rattle.rr_text.specs.KeptText.{printed_by}
use Rattle.rr_text.specs.KeptText.{printed_lines, is_printed_by, is_printed}
use Rattle.rr_text.proofs.EntryLemmas.{concat-text_lines, further, opened_kind}
use Rattle.rr_text.proofs.CanonicalLines.{IsOpeningOf, opening_of, canonical_lines}
use Rattle.rr_text.proofs.CanonicalLines.{canonical_text_lines, value_lines, further_lines}
use Rattle.rr_text.proofs.CanonicalLines.{further_kind, opening_kind, name_bytes, name_begins}
use Rattle.rr_text.proofs.CanonicalLines.{added_value_is}
use Rattle.rr_text.proofs.RoundTrip.{further_continued, canonical_again}
use Rattle.rr_text.specs.FieldEquality.{fields_eq-Decides}
use Rattle.rr_text.proofs.SoundLemmas.{and_left, and_right, or_left, or_right, sound}

-- the canonical text of the further lines of a value
abbrev pub further_text : List (List ℕ) → List ℕ
further_text lines = flat_map (λ line. ended (further_line line)) lines

-- canonical text keeps its attributes

kept_further : (further rest : List (List ℕ)) → AllByRecursion IsLine further →
    kept_fields (further_lines further ++ rest) ≡ kept_fields rest
unfolding further_lines kept_fields
kept_further [] rest good = refl
kept_further (line ∷ others) rest good =
    let kind : line_kind (ended (further_line line)) ≡ Continuation =
    (further_kind line good.0).0 in
    rw kind (kept_further others rest good.1)

kept_opened : (line : List ℕ) (others : List (List ℕ)) → line_kind line ≡ Opening →
    kept_fields (line ∷ others) ≡ kept_field line (continued others) ∷ kept_fields others
unfolding kept_fields
kept_opened line others h = rw h refl

continued_opened : (line : List ℕ) (others : List (List ℕ)) → line_kind line ≡ Opening →
    continued (line ∷ others) ≡ []
unfolding continued
continued_opened line others h = rw h refl

-- the lines of one attribute before others that continue nothing
kept_one : (name : List ℕ) (lines rest : List (List ℕ)) → list_all is_name_byte name ≡ true →
    begins is_ascii_alphabetic name ≡ true
    → 0 < length lines → AllByRecursion IsLine lines → continued rest ≡ []
    → (continued (value_lines name lines ++ rest) ≡ [])
    × (kept_fields (value_lines name lines ++ rest) ≡ record { name = name; lines = lines }
    ∷ kept_fields rest)
unfolding value_lines
kept_one name [] rest bytes letter some good none = absurd (omega arith)
kept_one name (first ∷ further) rest bytes letter some good none =
    let line = ended (opening_line name first) in
    let others = further_lines further ++ rest in
    let kind : line_kind line ≡ Opening = (opening_kind name first letter).0 in
    let opens : IsOpeningOf name first line = opening_of name first bytes good.0.trimmed in
    let make = λ (n : List ℕ) (ls : List (List ℕ)). let field : Field =
    record { name = n; lines = ls } in field in
    let more : continued others ≡ further = further_continued further rest good.1
    ∙ (ap (λ ls. further ++ ls) none ∙ append-nil further) in
    let field : kept_field line (continued others) ≡ make name (first ∷ further) =
    ap (λ n. make n (opened_value line ∷ continued others)) opens.name_is
    ∙ (ap (λ v. make name (v ∷ continued others)) opens.value_is
    ∙ ap (λ ls. make name (first ∷ ls)) more)
    in (
      continued_opened line others kind,
      kept_opened line others kind
          ∙ (ap (λ f. f ∷ kept_fields others) field ∙ ap (λ fs. make name (first ∷ further) ∷ fs)
          (kept_further further rest good.1)),
    )

kept_lines : (fields : List Field) → AreFields fields → (continued (canonical_lines fields) ≡ [])
    × (kept_fields (canonical_lines fields) ≡ fields)
unfolding canonical_lines continued kept_fields
kept_lines [] good = (refl, refl)
kept_lines (field ∷ others) good =
    let rest = kept_lines others good.1 in
    let one = kept_one field.name field.lines (canonical_lines others) (name_bytes field good.0)
    (name_begins field good.0) good.0.some good.0.good rest.0 in
    (one.0, one.1 ∙ ap (λ fs. field ∷ fs) rest.1)

pub kept_again : (fields : List Field) → AreFields fields → fields_in (canonical fields) ≡ fields
unfolding fields_in
kept_again fields good = ap kept_fields (canonical_text_lines fields good)
    ∙ (kept_lines fields good).1

-- the canonical text of well-formed attributes may be kept
pub kept_of : (fields : List Field) (text : List ℕ) → AreFields fields → text ≡ canonical fields →
    (fields_in text ≡ fields) × IsKeptText text
kept_of fields text good same =
    let again : fields_in text ≡ fields = ap fields_in same ∙ kept_again fields good in
    let P : List Field → Type 0 = AreFields in
    (again, record { good = rw again good; printed = ap canonical again ∙ sym same })

-- texts that are kept are the same where their attributes are
pub kept_same : (a b : List ℕ) → IsKeptText a → IsKeptText b → fields_in a ≡ fields_in b → a ≡ b
kept_same a b one other same = sym one.printed ∙ (ap canonical same ∙ other.printed)

-- lines that are printed give the canonical text of their attributes

printed_step : (kind : LineKind) (line : List ℕ) (others : List (List ℕ)) → line_kind line ≡ kind
    → further_text (continued others) ++ canonical (block_fields others) ≡ printed_lines others
    → further_text (continued (line ∷ others)) ++ canonical (block_fields (line ∷ others))
    ≡ printed_by line kind ++ printed_lines others
unfolding continued block_fields canonical
printed_step Blank line others e rec = rw e rec
printed_step Skipped line others e rec = rw e rec
printed_step Continuation line others e rec =
    rw e (append_assoc (ended (further_line (added_value line))) (further_text (continued others))
    (canonical (block_fields others)) ∙ ap (λ text. ended (further_line (added_value line)) ++
    text) rec)
printed_step Opening line others e rec =
    let first = ended (opening_line (lowered (written_name line)) (opened_value line)) in
    rw e (append_assoc first (further_text (continued others)) (canonical (block_fields others))
    ∙ ap (λ text. first ++ text) rec)

printed_all : (lines : List (List ℕ)) → further_text (continued lines) ++ canonical
    (block_fields lines) ≡ printed_lines lines
unfolding continued block_fields canonical printed_lines
printed_all [] = refl
printed_all (line ∷ others) = printed_step (line_kind line) line others refl (printed_all others)

pub printed_is : (lines : List (List ℕ)) → opens_first lines ≡ true → printed_lines lines
    ≡ canonical (block_fields lines)
printed_is [] h = cc
printed_is (line ∷ others) h =
    let kind : line_kind line ≡ Opening = opened_kind (line_kind line) h in
    sym (printed_all (line ∷ others))
    ∙ ap (λ lines. further_text lines ++ canonical (block_fields (line ∷ others)))
    (continued_opened line others kind)

-- lines of a text that is kept

passed_by : (kind : LineKind) (line : List ℕ) (others : List (List ℕ)) → line_kind line ≡ kind →
    opens_attribute kind ≡ false → kept_fields (line ∷ others) ≡ kept_fields others
unfolding kept_fields
passed_by Blank line others e h = rw e refl
passed_by Skipped line others e h = rw e refl
passed_by Continuation line others e h = rw e refl
passed_by Opening line others e h = cc

pub kept_passed : (line : List ℕ) (kind : LineKind) (others : List (List ℕ)) →
    kind ≡ line_kind line → opens_attribute kind ≡ false → kept_fields (line ∷ others)
    ≡ kept_fields others
kept_passed line kind others e h = passed_by kind line others (sym e) h

pub kept_none : (text : List ℕ) → length text ≡ 0 → kept_fields (text ∷ text_lines text)
    ≡ kept_fields (text_lines text)
unfolding line_kind kept_fields text_lines
kept_none [] none = refl
kept_none (b ∷ bs) none = absurd (omega arith)

no_line_kept : (after : List ℕ) → after ≡ [] → kept_fields ([] ∷ text_lines after) ≡ []
unfolding line_kind kept_fields text_lines
no_line_kept after none = rw none refl

pub kept_end : (line after : List ℕ) → OpensOrEnds line after → length line ≡ 0 →
    kept_fields (line ∷ text_lines after) ≡ []
kept_end [] after so none = no_line_kept after (so.ends none)
kept_end (b ∷ bs) after so none = absurd (omega arith)

pub kept_next : (line after next later : List ℕ) → OpensOrEnds line after → 0 < length line
    → kept_fields (next ∷ text_lines later) ≡ kept_fields (text_lines after)
    → kept_fields (line ∷ text_lines after) ≡ kept_field line (continued (text_lines after))
    ∷ kept_fields (next ∷ text_lines later)
kept_next line after next later so some same =
    kept_opened line (text_lines after) (opened_kind (line_kind line) (so.opens some))
    ∙ ap (λ fs. kept_field line (continued (text_lines after)) ∷ fs) (sym same)

-- steps through texts

-- one piece more of what all of them make
pub step_by : {A : Type 0} (done new piece more whole all : List A) → done ++ whole ≡ all →
    whole ≡ piece ++ more → new ≡ done ++ piece → new ++ more ≡ all
step_by done new piece more whole all now is added =
    ap (λ d. d ++ more) added
    ∙ (append_assoc done piece more ∙ (ap (λ w. done ++ w) (sym is) ∙ now))

-- where no more is left, what is done is all
pub ended_by : {A : Type 0} (done more all : List A) → done ++ more ≡ all → more ≡ [] → done ≡ all
ended_by done more all now none = sym (append-nil done) ∙ (ap (λ m. done ++ m) (sym none) ∙ now)

pub further_more : (line : List ℕ) (kind : LineKind) (others : List (List ℕ)) →
    kind ≡ line_kind line → opens_attribute kind ≡ false
    → further_text (continued (line ∷ others)) ≡ further_text (added_lines line kind) ++
    further_text (continued others)
further_more line kind others e h =
    ap further_text (further line kind others e h).lines ∙ flat_map-append
    (λ l. ended (further_line l)) (added_lines line kind) (continued others)

pub printed_more : (line : List ℕ) (kind : LineKind) (others : List (List ℕ)) →
    kind ≡ line_kind line → printed_lines (line ∷ others) ≡ printed_by line kind ++ printed_lines
    others
unfolding printed_lines
printed_more line kind others e = ap (λ k. printed_by line k ++ printed_lines others) (sym e)

pub printed_none : (text : List ℕ) → length text ≡ 0 → (printed_lines (text_lines text) ≡ [])
    × (list_all is_printed (text_lines text) ≡ true) × (opens_first (text_lines text) ≡ false)
unfolding printed_lines text_lines
printed_none [] none = (refl, refl, refl)
printed_none (b ∷ bs) none = absurd (omega arith)

pub canonical_none : canonical [] ≡ []
unfolding canonical
canonical_none = refl

pub canonical_more : (field : Field) (others : List Field) → canonical (field ∷ others)
    ≡ field_text field ++ canonical others
unfolding canonical
canonical_more field others = refl

-- attributes of a name

left_out_by : (t : Bool) (test : Field → Bool) (field : Field) (others : List Field) → test field
    ≡ t
    → filter (λ f. not (test f)) (field ∷ others)
    ≡ (if t then filter (λ f. not (test f)) others else field ∷ filter (λ f. not (test f))
    others)
left_out_by true test field others h = rw h refl
left_out_by false test field others h = rw h refl

pub left_out : (test : Field → Bool) (field : Field) (others : List Field) → test field ≡ true →
    filter (λ f. not (test f)) (field ∷ others) ≡ filter (λ f. not (test f)) others
left_out test field others h = left_out_by true test field others h

pub taken_over : (test : Field → Bool) (field : Field) (others : List Field) → test field ≡ false
    → canonical (filter (λ f. not (test f)) (field ∷ others)) ≡ field_text field ++ canonical
    (filter (λ f. not (test f)) others)
taken_over test field others h = ap canonical (left_out_by false test field others h)
    ∙ canonical_more field _

-- where no attribute has the name, none is left out, and none gets a value
pub none_left_out : (test : Field → Bool) (fields : List Field) → list_any test fields ≡ false →
    filter (λ f. not (test f)) fields ≡ fields
none_left_out test [] h = refl
none_left_out test (field ∷ others) h =
    left_out_by false test field others (or_left (test field) (list_any test others) h)
    ∙ ap (λ fs. field ∷ fs)
    (none_left_out test others (or_right (test field) (list_any test others) h))

valued_none : (name line : List ℕ) (field : Field) → has_name name field ≡ false →
    with_value name line field ≡ field
valued_none name line field h = rw h refl

pub none_valued : (name line : List ℕ) (fields : List Field) → list_any (has_name name) fields
    ≡ false → map (with_value name line) fields ≡ fields
none_valued name line [] h = refl
none_valued name line (field ∷ others) h =
    ap (λ f. f ∷ map (with_value name line) others)
    (valued_none name line field
    (or_left (has_name name field) (list_any (has_name name) others) h))
    ∙ ap (λ fs. field ∷ fs)
    (none_valued name line others
    (or_right (has_name name field) (list_any (has_name name) others) h))

-- texts that are canonical

same_bytes : (a b : List ℕ) → bytes_eq a b ≡ true → a ≡ b
same_bytes a b h = (bytes_decides a b).0 h

printed_kind : (kind : LineKind) (line : List ℕ) → is_printed_by line kind ≡ true →
    printed_by line kind ≡ line
printed_kind Blank line h = cc
printed_kind Skipped line h = cc
printed_kind Continuation line h = same_bytes _ _ h
printed_kind Opening line h =
    let lower : lowered (written_name line) ≡ written_name line =
    same_bytes _ _ (and_left (bytes_eq (lowered (written_name line)) (written_name line)) _
    h) in
    ap (λ name. ended (opening_line name (opened_value line))) lower
    ∙ same_bytes _ _ (and_right (bytes_eq (lowered (written_name line)) (written_name line))
    (bytes_eq (ended (opening_line (written_name line) (opened_value line))) line) h)

printed_line : (line : List ℕ) → is_printed line ≡ true → printed_by line (line_kind line) ≡ line
unfolding is_printed
printed_line line h = printed_kind (line_kind line) line h

all_as_printed : (lines : List (List ℕ)) → list_all is_printed lines ≡ true → printed_lines lines
    ≡ concat lines
unfolding printed_lines
all_as_printed [] h = refl
all_as_printed (line ∷ others) h =
    ap (λ l. l ++ printed_lines others)
    (printed_line line (and_left (is_printed line) (list_all is_printed others) h))
    ∙ ap (λ ls. line ++ ls)
    (all_as_printed others (and_right (is_printed line) (list_all is_printed others) h))

opened_some : (lines : List (List ℕ)) → opens_first lines ≡ true → 0 < length (block_fields lines)
unfolding block_fields
opened_some [] h = cc
opened_some (line ∷ others) h = let kind : line_kind line ≡ Opening = opened_kind (line_kind line)
    h in rw kind (omega arith)

-- the canonical text of the lines of a block without a fault may be kept, and keeps its attributes
pub block_kept : (block text : List ℕ) → opens_first (text_lines block) ≡ true →
    block_fault (text_lines block) ≡ None → text ≡ printed_lines (text_lines block)
    → (fields_in text ≡ block_fields (text_lines block)) × IsKeptText text
block_kept block text opens none is = kept_of (block_fields (text_lines block)) text
    (sound block none) (is ∙ printed_is (text_lines block) opens)

pub canonical_kept : (text : List ℕ) → opens_first (text_lines text) ≡ true →
    block_fault (text_lines text) ≡ None → list_all is_printed (text_lines text) ≡ true
    → IsKeptText text × (0 < length (fields_in text))
canonical_kept text opens none all =
    let kept = block_kept text text opens none
    (sym (all_as_printed (text_lines text) all ∙ concat-text_lines text)) in
    (kept.1, omega (arith, ap length kept.0, opened_some (text_lines text) opens))

bytes_same : (a b : List ℕ) → a ≡ b → bytes_eq a b ≡ true
bytes_same a b e = (bytes_decides a b).1 e

and_both : (a b : Bool) → a ≡ true → b ≡ true → (a && b) ≡ true
and_both a b h e = rw (h, e) refl

opening_printed : (name first : List ℕ) → list_all is_name_byte name ≡ true →
    begins is_ascii_alphabetic name ≡ true → lowered name ≡ name → IsLine first
    → is_printed (ended (opening_line name first)) ≡ true
unfolding is_printed
opening_printed name first bytes letter lower good =
    let line = ended (opening_line name first) in
    let opens : IsOpeningOf name first line = opening_of name first bytes good.trimmed in
    let kind : line_kind line ≡ Opening = (opening_kind name first letter).0 in
    let named : lowered (written_name line) ≡ written_name line = ap lowered opens.name_is
    ∙ (lower ∙ sym opens.name_is) in
    let same : ended (opening_line (written_name line) (opened_value line)) ≡ line =
    ap (λ n. ended (opening_line n (opened_value line))) opens.name_is
    ∙ ap (λ v. ended (opening_line name v)) opens.value_is
    in ap (is_printed_by line) kind ∙ and_both _ _ (bytes_same _ _ named) (bytes_same _ _ same)

further_printed : (line : List ℕ) → IsLine line → is_printed (ended (further_line line)) ≡ true
unfolding is_printed
further_printed line good =
    ap (is_printed_by (ended (further_line line))) (further_kind line good).0 ∙ bytes_same _ _
    (ap (λ l. ended (further_line l)) (added_value_is line good.trimmed))

all_further : (further rest : List (List ℕ)) → AllByRecursion IsLine further →
    list_all is_printed rest ≡ true → list_all is_printed (further_lines further ++ rest) ≡ true
unfolding further_lines
all_further [] rest good all = all
all_further (line ∷ others) rest good all = and_both _ _ (further_printed line good.0)
    (all_further others rest good.1 all)

all_value : (name : List ℕ) (lines rest : List (List ℕ)) → list_all is_name_byte name ≡ true →
    begins is_ascii_alphabetic name ≡ true → lowered name ≡ name → AllByRecursion IsLine lines
    → list_all is_printed rest ≡ true → list_all is_printed (value_lines name lines ++ rest) ≡ true
unfolding value_lines
all_value name [] rest bytes letter lower good all = all
all_value name (first ∷ further) rest bytes letter lower good all =
    and_both _ _ (opening_printed name first bytes letter lower good.0)
    (all_further further rest good.1 all)

all_canonical : (fields : List Field) → AreFields fields → list_all is_printed
    (canonical_lines fields) ≡ true
unfolding canonical_lines
all_canonical [] good = refl
all_canonical (field ∷ others) good =
    all_value field.name field.lines (canonical_lines others) (name_bytes field good.0)
    (name_begins field good.0) good.0.lower good.0.good (all_canonical others good.1)

value_opens : (name : List ℕ) (lines rest : List (List ℕ)) → begins is_ascii_alphabetic name
    ≡ true → 0 < length lines → opens_first (value_lines name lines ++ rest) ≡ true
unfolding value_lines
value_opens name [] rest letter some = absurd (omega arith)
value_opens name (first ∷ further) rest letter some =
    ap opens_attribute (opening_kind name first letter).0

canonical_opens : (fields : List Field) → 0 < length fields → AreFields fields →
    opens_first (canonical_lines fields) ≡ true
unfolding canonical_lines
canonical_opens [] some good = absurd (omega arith)
canonical_opens (field ∷ others) some good = value_opens field.name field.lines
    (canonical_lines others) (name_begins field good.0) good.0.some

-- what holds of the lines of each canonical text
pub canonical_only : (text : List ℕ) (fields : List Field) → 0 < length fields → AreFields fields →
    canonical fields ≡ text
    → (opens_first (text_lines text) ≡ true) × (block_fault (text_lines text) ≡ None)
    × (list_all is_printed (text_lines text) ≡ true)
canonical_only text fields some good same =
    let lines : text_lines text ≡ canonical_lines fields = ap text_lines (sym same)
    ∙ canonical_text_lines fields good in (
      ap opens_first lines ∙ canonical_opens fields some good,
      (canonical_again text fields good same).0,
      ap (list_all is_printed) lines ∙ all_canonical
          fields good,
    )

pub not_no : (t : Bool) → not t ≡ false → t ≡ true
not_no true h = refl
not_no false h = cc

-- two answers that are `true` in the same cases
same_answers : (s t : Bool) → (s ≡ true → t ≡ true) → (t ≡ true → s ≡ true) → s ≡ t
same_answers true t h e = sym (h refl)
same_answers false true h e = e refl
same_answers false false h e = refl

-- texts that are kept are compared in place of their attributes
pub eq_kept : (a b : List ℕ) → IsKeptText a → IsKeptText b → bytes_eq a b ≡ fields_eq (fields_in a)
    (fields_in b)
eq_kept a b one other =
    same_answers (bytes_eq a b) (fields_eq (fields_in a) (fields_in b))
    (λ h. (fields_eq-Decides (fields_in a) (fields_in b)).1 (ap fields_in (same_bytes a b h)))
    (λ h.
    bytes_same a b (kept_same a b one other ((fields_eq-Decides (fields_in a) (fields_in b)).0
    h)))

-- bytes in lower case

pub lower_same : (name : List ℕ) → list_all (λ b. to_ascii_lowercase b == b) name ≡ bytes_eq
    (lowered name) name
lower_same [] = refl
lower_same (b ∷ bs) = ap (λ t. (to_ascii_lowercase b == b) && t) (lower_same bs)

-- a text has at most as many attributes as bytes

onto_few : (b : ℕ) (lines : List (List ℕ)) (n : ℕ) → length lines ≤ n → length (onto_first b lines)
    ≤ n + 1
onto_few b [] n h = omega arith
onto_few b (line ∷ others) n h = omega (arith, h)

lines_few_by : (t : Bool) (b : ℕ) (bs : List ℕ) → is_line_feed b ≡ t → length (text_lines bs) ≤
    length bs → length (text_lines (b ∷ bs)) ≤ length (b ∷ bs)
unfolding text_lines
lines_few_by true b bs h few = rw h (omega (arith, few))
lines_few_by false b bs h few = rw h (let more = onto_few b (text_lines bs) (length bs) few in
    omega (arith, more))

lines_few : (text : List ℕ) → length (text_lines text) ≤ length text
unfolding text_lines
lines_few [] = omega arith
lines_few (b ∷ bs) = lines_few_by (is_line_feed b) b bs refl (lines_few bs)

kept_few_by : (kind : LineKind) (line : List ℕ) (more : List (List ℕ)) (fields : List Field) →
    length (kept_by line kind more fields) ≤ length fields + 1
kept_few_by Blank line more fields = omega arith
kept_few_by Skipped line more fields = omega arith
kept_few_by Continuation line more fields = omega arith
kept_few_by Opening line more fields = omega arith

kept_few : (lines : List (List ℕ)) → length (kept_fields lines) ≤ length lines
unfolding kept_fields
kept_few [] = omega arith
kept_few (line ∷ others) =
    let one = kept_few_by (line_kind line) line (continued others) (kept_fields others) in
    let rest = kept_few others in
    omega (arith, one, rest)

pub fields_few : (text : List ℕ) → length (fields_in text) ≤ length text
unfolding fields_in
fields_few text =
    let one = kept_few (text_lines text) in
    let rest = lines_few text in
    omega (arith, one, rest)
