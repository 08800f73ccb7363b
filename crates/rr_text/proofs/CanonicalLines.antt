-- The lines of canonical text, their kinds, and what each of them gives: for what it spells.
-- Names have no LF, colon or blank, so a text is cut again where printing joined it. Inductions go
-- over bytes, lines and attributes, apart for the first line of a value and its further ones. The
-- colon's place, padding and trims are given by hand. `RoundTrip`, `KeptLemmas` and `DumpTexts`
-- need it.
use Rattle.std.proofs.Common.{◌≡◌, ◌==◌, ℕ, ◌+◌, ◌-◌, ◌<◌, max, Bool, true, false, ◌&&◌, ◌||◌, List}
use Rattle.std.proofs.Common.{[], ◌∷◌, ◌++◌, length, take, drop, replicate, refl, sym, ap, ◌∙◌}
use Rattle.std.proofs.Common.{arith, append_assoc, length-append, suc, zero}
use Rattle.std.proofs.lemmas.Bool.Decides.{nat_tests}
use Rattle.std.proofs.lemmas.List.{drop_at, take_at}
use Rattle.std.proofs.lemmas.List.Folds.{list_any-append}
use Rattle.std.specs.List.{list_any, list_all, flat_map, AllByRecursion, onto_first, before_first}
use Rattle.std.specs.List.{after_first, position_or_len}
use Rattle.std.specs.Char.{is_ascii_alphabetic}
use Rattle.rr_text.specs.declared.line.LineKind.TheVariants.{Continuation, Opening}
use Rattle.rr_bytes.specs.Blanks.{is_blank_or_line_feed, is_line_feed}
use Rattle.rr_bytes.specs.NameBytes.{begins, is_name_byte}
use Rattle.rr_bytes.specs.Trims.{before_trimmed, trim, trim_end, trim_start}
use Rattle.rr_text.specs.Bytes.{is_refused, is_colon}
use Rattle.rr_text.specs.Lines.{text_lines, are_whole_lines, line_kind, is_blank_line}
use Rattle.rr_text.specs.Lines.{is_skipped_line, is_remark_sign}
use Rattle.rr_text.specs.Faults.{written_name}
use Rattle.rr_text.specs.Entries.{added_value, opened_value}
use Rattle.rr_bytes.proofs.TrimLemmas.{trim_end_blank}
use Rattle.rr_text.specs.Fields.{Field, IsLine, IsField, AreFields}
use Rattle.rr_text.specs.CanonicalText.{value_column, ended, opening_line, further_line}
use Rattle.rr_text.specs.CanonicalText.{after_blanks, value_text, canonical}
use Rattle.rr_text.proofs.LineLemmas.{text_lines-append}
use Rattle.rr_text.proofs.SoundLemmas.{and_left, and_right, or_left, or_right, not_false, any_cons}

-- a line with no LF in it, and the LF that ends it
lone_more : (b : ℕ) (bs : List ℕ) → is_line_feed b ≡ false → text_lines bs ≡ bs ∷ [] →
    text_lines (b ∷ bs) ≡ (b ∷ bs) ∷ []
unfolding text_lines
lone_more b bs h rec = rw h (ap (onto_first b) rec)

ended_lone : (line : List ℕ) → list_any is_line_feed line ≡ false → text_lines (ended line)
    ≡ ended line ∷ []
unfolding text_lines
ended_lone [] h = refl
ended_lone (b ∷ bs) h = lone_more b (bs ++ 10 ∷ []) (or_left _ _ h)
    (ended_lone bs (or_right (is_line_feed b) _ h))

whole_more : (b : ℕ) (bs : List ℕ) → are_whole_lines bs ≡ true → 0 < length bs →
    are_whole_lines (b ∷ bs) ≡ true
unfolding are_whole_lines
whole_more b [] h some = absurd (omega arith)
whole_more b (c ∷ cs) h some = h

some_ended : (line : List ℕ) → 0 < length (ended line)
some_ended [] = omega arith
some_ended (b ∷ bs) = omega arith

pub ended_whole : (line : List ℕ) → are_whole_lines (ended line) ≡ true
unfolding are_whole_lines
ended_whole [] = refl
ended_whole (b ∷ bs) = whole_more b (ended bs) (ended_whole bs) (some_ended bs)

-- the lines of a text that begins with such a line
ended_lines : (line rest : List ℕ) → list_any is_line_feed line ≡ false →
    text_lines (ended line ++ rest) ≡ ended line ∷ text_lines rest
ended_lines line rest h = text_lines-append (ended line) rest (ended_whole line)
    ∙ ap (λ ls. ls ++ text_lines rest) (ended_lone line h)

-- the lines that a value is printed as
unfoldable pub further_lines : List (List ℕ) → List (List ℕ)
further_lines [] = []
further_lines (line ∷ others) = ended (further_line line) ∷ further_lines others

unfoldable pub value_lines : List ℕ → List (List ℕ) → List (List ℕ)
value_lines name [] = []
value_lines name (first ∷ further) = ended (opening_line name first) ∷ further_lines further

-- the lines of a paragraph's canonical text
unfoldable pub canonical_lines : List Field → List (List ℕ)
canonical_lines [] = []
canonical_lines (field ∷ others) = value_lines field.name field.lines ++ canonical_lines others

-- bytes of names and blanks

pub any_none : (p : ℕ → Bool) → ((b : ℕ) → is_name_byte b ≡ true → p b ≡ false) → (name : List ℕ) →
    list_all is_name_byte name ≡ true → list_any p name ≡ false
any_none p never [] h = refl
any_none p never (b ∷ bs) h =
    any_cons p b bs (never b (and_left (is_name_byte b) (list_all is_name_byte bs) h))
    (any_none p never bs (and_right (is_name_byte b) (list_all is_name_byte bs) h))

name_no_feed : (b : ℕ) → is_name_byte b ≡ true → is_line_feed b ≡ false
name_no_feed b h = grind (arith, nat_tests)

pub name_no_refused : (b : ℕ) → is_name_byte b ≡ true → is_refused b ≡ false
name_no_refused b h = grind (arith, nat_tests)

name_no_colon : (b : ℕ) → is_name_byte b ≡ true → is_colon b ≡ false
name_no_colon b h = grind (arith, nat_tests)

name_no_blank : (b : ℕ) → is_name_byte b ≡ true → is_blank_or_line_feed b ≡ false
name_no_blank b h = grind (arith, nat_tests)

any_blanks : (p : ℕ → Bool) → p 32 ≡ false → (n : ℕ) → list_any p (replicate n 32) ≡ false
any_blanks p h zero = refl
any_blanks p h (suc n) = any_cons p 32 (replicate n 32) h (any_blanks p h n)

pub any_append : (p : ℕ → Bool) (xs ys : List ℕ) → list_any p xs ≡ false → list_any p ys ≡ false →
    list_any p (xs ++ ys) ≡ false
any_append p xs ys h e = list_any-append p xs ys ∙ rw (h, e) refl

any_after : (p : ℕ → Bool) (n : ℕ) (line : List ℕ) → p 32 ≡ false → list_any p line ≡ false →
    list_any p (after_blanks n line) ≡ false
any_after p n [] h e = refl
any_after p n (b ∷ bs) h e = any_append p (replicate n 32) (b ∷ bs) (any_blanks p h n) e

pub any_opening : (p : ℕ → Bool) (name line : List ℕ) → p 32 ≡ false → p 58 ≡ false →
    list_any p name ≡ false → list_any p line ≡ false →
    list_any p (opening_line name line) ≡ false
any_opening p name line h k e f =
    any_append p (name ++ 58 ∷ []) _ (any_append p name (58 ∷ []) e (any_cons p 58 [] k refl))
    (any_after p _ line h f)

pub any_further : (p : ℕ → Bool) (line : List ℕ) → p 32 ≡ false → p 43 ≡ false → list_any p line
    ≡ false → list_any p (further_line line) ≡ false
any_further p [] h k e = any_cons p 43 [] k refl
any_further p (b ∷ bs) h k e = any_append p (replicate 16 32) (b ∷ bs) (any_blanks p h 16) e

-- what the name of a well-formed attribute is made of
pub name_bytes : (field : Field) → IsField field → list_all is_name_byte field.name ≡ true
name_bytes field good = and_right (begins is_ascii_alphabetic field.name) _
    (and_left (begins is_ascii_alphabetic field.name && list_all is_name_byte field.name) _
    good.named)

pub name_begins : (field : Field) → IsField field → begins is_ascii_alphabetic field.name ≡ true
name_begins field good =
    and_left _ _
    (and_left (begins is_ascii_alphabetic field.name && list_all is_name_byte field.name) _
    good.named)

-- the lines of canonical text

further_text : (further : List (List ℕ)) (rest : List ℕ) → AllByRecursion IsLine further →
    text_lines (flat_map (λ line. ended (further_line line)) further ++ rest) ≡ further_lines
    further ++ text_lines rest
unfolding further_lines
further_text [] rest good = refl
further_text (line ∷ others) rest good =
    let free : list_any is_line_feed (further_line line) ≡ false = any_further is_line_feed line
    refl refl (not_false _ good.0.unbroken) in
    ap text_lines (append_assoc (ended (further_line line)) (flat_map (λ l. ended (further_line l))
    others) rest)
    ∙ (ended_lines (further_line line) (flat_map (λ l. ended (further_line l)) others ++ rest) free
    ∙ ap (λ ls. ended (further_line line) ∷ ls) (further_text others rest good.1))

value_text_lines : (name : List ℕ) (lines : List (List ℕ)) (rest : List ℕ) → list_any is_line_feed
    name ≡ false → AllByRecursion IsLine lines
    → text_lines (value_text name lines ++ rest) ≡ value_lines name lines ++ text_lines rest
unfolding value_lines
value_text_lines name [] rest free good = refl
value_text_lines name (first ∷ further) rest free good =
    let none : list_any is_line_feed (opening_line name first) ≡ false = any_opening is_line_feed
    name first refl refl free (not_false _ good.0.unbroken) in
    ap text_lines (append_assoc (ended (opening_line name first))
    (flat_map (λ l. ended (further_line l)) further) rest)
    ∙ (ended_lines (opening_line name first) (flat_map (λ l. ended (further_line l)) further ++
    rest) none
    ∙ ap (λ ls. ended (opening_line name first) ∷ ls) (further_text further rest good.1))

pub canonical_text_lines : (fields : List Field) → AreFields fields → text_lines (canonical fields)
    ≡ canonical_lines fields
unfolding canonical_lines canonical text_lines
canonical_text_lines [] good = refl
canonical_text_lines (field ∷ others) good =
    value_text_lines field.name field.lines (canonical others)
    (any_none is_line_feed name_no_feed field.name (name_bytes field good.0)) good.0.good
    ∙ ap (λ ls. value_lines field.name field.lines ++ ls) (canonical_text_lines others good.1)

-- the kinds of these lines

letter_facts : (b : ℕ) → is_ascii_alphabetic b ≡ true → (is_blank_or_line_feed b ≡ false)
    × (is_remark_sign b ≡ false) × ((b == 43) ≡ false)
letter_facts b h = (grind (arith, nat_tests), grind (arith, nat_tests), grind (arith, nat_tests))

letter_kind : (b : ℕ) (bs : List ℕ) → is_ascii_alphabetic b ≡ true → (line_kind (b ∷ bs) ≡ Opening)
    × (is_blank_line (b ∷ bs) ≡ false) × (is_skipped_line (b ∷ bs) ≡ false)
unfolding line_kind
letter_kind b bs h =
    let facts = letter_facts b h in
    let blank : is_blank_or_line_feed b ≡ false = facts.0 in
    let remark : is_remark_sign b ≡ false = facts.1 in
    let plus : (b == 43) ≡ false = facts.2 in
    (rw (blank, remark, plus) refl, rw blank refl, remark)

pub opening_kind : (name first : List ℕ) → begins is_ascii_alphabetic name ≡ true
    → (line_kind (ended (opening_line name first)) ≡ Opening)
    × (is_blank_line (ended (opening_line name first)) ≡ false)
    × (is_skipped_line (ended (opening_line name first)) ≡ false)
opening_kind [] first h = cc
opening_kind (b ∷ bs) first h = letter_kind b _ h

all_blank_start_by : (b : ℕ) (bs : List ℕ) → is_blank_or_line_feed b ≡ true →
    trim_start is_blank_or_line_feed bs ≡ [] → trim_start is_blank_or_line_feed (b ∷ bs) ≡ []
unfolding trim_start
all_blank_start_by b bs h rec = rw h rec

all_blank_start : (bs : List ℕ) → list_all is_blank_or_line_feed bs ≡ true →
    trim_start is_blank_or_line_feed bs ≡ []
unfolding trim_start
all_blank_start [] h = refl
all_blank_start (b ∷ bs) h = all_blank_start_by b bs
    (and_left (is_blank_or_line_feed b) (list_all is_blank_or_line_feed bs) h)
    (all_blank_start bs (and_right (is_blank_or_line_feed b) (list_all is_blank_or_line_feed bs) h))

all_blank_trim : (bs : List ℕ) → list_all is_blank_or_line_feed bs ≡ true →
    trim is_blank_or_line_feed bs ≡ []
unfolding trim_end
all_blank_trim bs h = ap (trim_end is_blank_or_line_feed) (all_blank_start bs h)

solid_by : (t : Bool) (b : ℕ) (bs : List ℕ) → list_all is_blank_or_line_feed (b ∷ bs) ≡ t →
    trim is_blank_or_line_feed (b ∷ bs) ≡ b ∷ bs → list_all is_blank_or_line_feed (b ∷ bs) ≡ false
solid_by true b bs h trimmed = let none : trim is_blank_or_line_feed (b ∷ bs) ≡ [] =
    all_blank_trim (b ∷ bs) h in cc
solid_by false b bs h trimmed = h

-- a trimmed line that is not empty has a byte that is not blank
solid : (b : ℕ) (bs : List ℕ) → trim is_blank_or_line_feed (b ∷ bs) ≡ b ∷ bs →
    list_all is_blank_or_line_feed (b ∷ bs) ≡ false
solid b bs trimmed = solid_by (list_all is_blank_or_line_feed (b ∷ bs)) b bs refl trimmed

all_left_by : (t : Bool) (b : ℕ) (bs ys : List ℕ) → is_blank_or_line_feed b ≡ t →
    list_all is_blank_or_line_feed (b ∷ bs) ≡ false → (list_all is_blank_or_line_feed bs ≡ false →
    list_all is_blank_or_line_feed (bs ++ ys) ≡ false) → list_all is_blank_or_line_feed
    ((b ∷ bs) ++ ys) ≡ false
all_left_by true b bs ys h all rec = let rest : list_all is_blank_or_line_feed bs ≡ false =
    rw h at all in rw h (rec rest)
all_left_by false b bs ys h all rec = rw h refl

all_left : (xs ys : List ℕ) → list_all is_blank_or_line_feed xs ≡ false →
    list_all is_blank_or_line_feed (xs ++ ys) ≡ false
all_left [] ys h = cc
all_left (b ∷ bs) ys h = all_left_by (is_blank_or_line_feed b) b bs ys refl h (all_left bs ys)

all_right : (n : ℕ) (ys : List ℕ) → list_all is_blank_or_line_feed ys ≡ false →
    list_all is_blank_or_line_feed (replicate n 32 ++ ys) ≡ false
all_right zero ys h = h
all_right (suc n) ys h = all_right n ys h

space_kind : (bs : List ℕ) → list_all is_blank_or_line_feed (32 ∷ bs) ≡ false →
    (line_kind (32 ∷ bs) ≡ Continuation) × (is_blank_line (32 ∷ bs) ≡ false)
unfolding line_kind
space_kind bs h = (rw h refl, h)

pub further_kind : (line : List ℕ) → IsLine line →
    (line_kind (ended (further_line line)) ≡ Continuation)
    × (is_blank_line (ended (further_line line)) ≡ false)
unfolding line_kind
further_kind [] good = (refl, refl)
further_kind (b ∷ bs) good = space_kind ((replicate 15 32 ++ b ∷ bs) ++ 10 ∷ [])
    (all_left (replicate 16 32 ++ b ∷ bs) (10 ∷ [])
    (all_right 16 (b ∷ bs) (solid b bs good.trimmed)))

-- what these lines give

solid_before : (b : ℕ) (bs : List ℕ) → is_blank_or_line_feed b ≡ false →
    before_trimmed is_blank_or_line_feed b bs ≡ b ∷ bs
solid_before b [] h = rw h refl
solid_before b (c ∷ cs) h = refl

solid_end : (bs : List ℕ) → list_any is_blank_or_line_feed bs ≡ false →
    trim_end is_blank_or_line_feed bs ≡ bs
unfolding trim_end
solid_end [] h = refl
solid_end (b ∷ bs) h = ap (before_trimmed is_blank_or_line_feed b)
    (solid_end bs (or_right (is_blank_or_line_feed b) _ h)) ∙ solid_before b bs
    (or_left (is_blank_or_line_feed b) (list_any is_blank_or_line_feed bs) h)

place_by : (b : ℕ) (bs rest : List ℕ) → is_colon b ≡ false → position_or_len is_colon
    (bs ++ 58 ∷ rest) ≡ length bs → position_or_len is_colon ((b ∷ bs) ++ 58 ∷ rest)
    ≡ length (b ∷ bs)
place_by b bs rest h rec = rw h (omega (arith, rec))

place_of_colon : (name rest : List ℕ) → list_any is_colon name ≡ false → position_or_len is_colon
    (name ++ 58 ∷ rest) ≡ length name
place_of_colon [] rest h = refl
place_of_colon (b ∷ bs) rest h = place_by b bs rest (or_left (is_colon b) _ h)
    (place_of_colon bs rest (or_right (is_colon b) (list_any is_colon bs) h))

drop_after : (name rest : List ℕ) → drop (length name + 1) (name ++ 58 ∷ rest) ≡ rest
drop_after name rest =
    ap (λ l. drop (length name + 1) l) (sym (append_assoc name (58 ∷ []) rest)) ∙ drop_at
    (name ++ 58 ∷ []) rest (length name + 1) (length-append name (58 ∷ []))

or_true : (a : Bool) → (a || true) ≡ true
or_true true = refl
or_true false = refl

any_colon : (name rest : List ℕ) → list_any is_colon (name ++ 58 ∷ rest) ≡ true
any_colon [] rest = refl
any_colon (b ∷ bs) rest = rw (any_colon bs rest) (or_true (is_colon b))

start_blanks : (n : ℕ) (bs : List ℕ) → trim_start is_blank_or_line_feed (replicate n 32 ++ bs)
    ≡ trim_start is_blank_or_line_feed bs
unfolding trim_start
start_blanks zero bs = refl
start_blanks (suc n) bs = start_blanks n bs

feed_by : (t : Bool) (b : ℕ) (bs : List ℕ) → is_blank_or_line_feed b ≡ t →
    trim_end is_blank_or_line_feed (trim_start is_blank_or_line_feed (bs ++ 10 ∷ [])) ≡ trim_end
    is_blank_or_line_feed (trim_start is_blank_or_line_feed bs) → trim_end is_blank_or_line_feed
    (trim_start is_blank_or_line_feed ((b ∷ bs) ++ 10 ∷ [])) ≡ trim_end is_blank_or_line_feed
    (trim_start is_blank_or_line_feed (b ∷ bs))
unfolding trim_start
feed_by true b bs h rec = rw h rec
feed_by false b bs h rec = rw h (trim_end_blank is_blank_or_line_feed 10 (b ∷ bs) refl)

trim-ended : (bs : List ℕ) → trim is_blank_or_line_feed (bs ++ 10 ∷ [])
    ≡ trim is_blank_or_line_feed bs
unfolding trim_start trim_end
trim-ended [] = refl
trim-ended (b ∷ bs) = feed_by (is_blank_or_line_feed b) b bs refl (trim-ended bs)

-- blanks before a line and the LF after it are trimmed
padded : (n : ℕ) (line : List ℕ) → trim is_blank_or_line_feed line ≡ line →
    trim is_blank_or_line_feed ((replicate n 32 ++ line) ++ 10 ∷ []) ≡ line
padded n line trimmed = trim-ended (replicate n 32 ++ line)
    ∙ (ap (trim_end is_blank_or_line_feed) (start_blanks n line) ∙ trimmed)

pub opened_value_is : (n : ℕ) (line : List ℕ) → trim is_blank_or_line_feed line ≡ line →
    trim is_blank_or_line_feed (after_blanks n line ++ 10 ∷ []) ≡ line
unfolding trim_start trim_end
opened_value_is n [] trimmed = refl
opened_value_is n (b ∷ bs) trimmed = padded n (b ∷ bs) trimmed

pub added_value_is : (line : List ℕ) → trim is_blank_or_line_feed line ≡ line →
    added_value (ended (further_line line)) ≡ line
unfolding trim_start trim_end
added_value_is [] trimmed = refl
added_value_is (b ∷ bs) trimmed = padded 15 (b ∷ bs) trimmed

colon_line : (name first : List ℕ) → ended (opening_line name first) ≡ name ++ 58
    ∷ (after_blanks (max 1 (value_column - (length name + 1))) first ++ 10 ∷ [])
colon_line name first =
    append_assoc (name ++ 58 ∷ []) (after_blanks (max 1 (value_column - (length name + 1))) first)
    (10 ∷ [])
    ∙ append_assoc name (58 ∷ []) (after_blanks (max 1 (value_column - (length name + 1))) first ++
    10 ∷ [])

-- a printed opening line opens the attribute that it was printed for
pub record IsOpeningOf (name first line : List ℕ) : Type 0 where
  pub colon : list_any is_colon line ≡ true
  pub name_is : written_name line ≡ name
  pub value_is : opened_value line ≡ first

pub opening_of : (name first : List ℕ) → list_all is_name_byte name ≡ true →
    trim is_blank_or_line_feed first ≡ first → IsOpeningOf name first
    (ended (opening_line name first))
opening_of name first bytes trimmed =
    let n = max 1 (value_column - (length name + 1)) in
    let rest = after_blanks n first ++ 10 ∷ [] in
    let free : list_any is_colon name ≡ false = any_none is_colon name_no_colon name bytes in
    let place : position_or_len is_colon (name ++ 58 ∷ rest) ≡ length name = place_of_colon name
    rest free in
    let before : before_first is_colon (name ++ 58 ∷ rest) ≡ name =
    ap (λ k. take k (name ++ 58 ∷ rest)) place ∙ take_at name (58 ∷ rest) (length name) refl in
    let after : after_first is_colon (name ++ 58 ∷ rest) ≡ rest =
    ap (λ k. drop (k + 1) (name ++ 58 ∷ rest)) place ∙ drop_after name rest in
    record {
      colon = ap (list_any is_colon) (colon_line name first) ∙ any_colon name rest;
      name_is = ap written_name (colon_line name first)
          ∙ (ap (trim_end is_blank_or_line_feed) before ∙ solid_end name
          (any_none is_blank_or_line_feed name_no_blank name bytes));
      value_is = ap opened_value (colon_line name first) ∙ (ap (trim is_blank_or_line_feed) after
          ∙ opened_value_is n first trimmed);
    }
