-- The entries of a full dump.
use Rattle.std.proofs.Common.{◌≡◌, ℕ, ◌+◌, ◌<◌, ◌≤◌, ◌==◌, zero, suc, Bool, true, false, cond, ◌||◌}
use Rattle.std.proofs.Common.{List, [], ◌∷◌, ◌++◌, length, Ok, refl, sym, ap, ◌∙◌, arith}
use Rattle.std.proofs.Common.{append_assoc, codes}
use Rattle.std.specs.Prelude.{◌/◌, ◌%◌, decimal}
use Rattle.std.specs.Fmt.{digit_glyph, digits, digits_onto}
use Rattle.std.specs.List.{AllByRecursion, flat_map, list_any}
use Rattle.std.proofs.lemmas.Bool.Decides.{nat_tests}
use Rattle.std.proofs.lemmas.List.{append-nil}
use Rattle.std.proofs.lemmas.List.Folds.{list_any-append}
use Rattle.rr_bytes.specs.Blanks.{is_line_feed}
use Rattle.rr_text.specs.CanonicalText.{canonical, ended}
use Rattle.rr_text.specs.Entries.{entries, size_limit}
use Rattle.rr_text.specs.Fields.{AreFields, Field}
use Rattle.rr_text.specs.Lines.{IsWholeLine, text_lines}
use Rattle.rr_text.specs.ParagraphReaders.{Entry}
use Rattle.rr_text.proofs.ApartLemmas.{no_entries}
use Rattle.rr_text.proofs.EntryLemmas.{entries_passed}
use Rattle.rr_text.proofs.CanonicalLines.{ended_whole}
use Rattle.rr_text.proofs.RoundTrip.{canonical_leads}
use Rattle.rr_object.specs.KeySpellings.{key_of}
use Rattle.rr_object.specs.declared.key.Key.{Key}
use Rattle.rr_object.specs.Objects.{Obj}
use Rattle.rr_object.specs.Readings.{object_of}
use Rattle.rr_object.proofs.Parsed.{kept_its_key, of_any_source}
use Rattle.rr_answer.specs.Dumps.{dumped, end_line}
use Rattle.rr_desk.specs.Dumps.{object_result, objects_from, with_first}

-- an object that is read again as it is printed
pub record IsPrinted (source : List ℕ) (o : Obj) : Type 0 where
  pub read : object_of o.paragraph source ≡ Ok o
  pub fields : AreFields o.paragraph
  pub small : length (canonical o.paragraph) ≤ size_limit

no_key : (key : Key) → key_of [] ≡ Ok key → ⊥
unfolding key_of
no_key key e = cc

-- an object has an attribute
has_attribute : (fields : List Field) (source : List ℕ) (object : Obj) → object_of fields source
    ≡ Ok object → 0 < length fields
has_attribute [] source object e =
    absurd (no_key object.key (kept_its_key [] object (of_any_source [] source object e)))
has_attribute (field ∷ fields) source object e = omega arith

-- the entries of the texts of objects
abbrev entries_of : List Obj → List Entry
entries_of [] = []
entries_of (o ∷ os) = Ok o.paragraph ∷ entries_of os

-- the texts of objects stand before what follows them
texts_lead : (source : List ℕ) (os : List Obj) (rest : List ℕ) → AllByRecursion (IsPrinted source)
    os → entries (flat_map (dumped true) os ++ rest) ≡ entries_of os ++ entries rest
texts_lead source [] rest all = refl
texts_lead source (o ∷ os) rest all =
    let one = canonical o.paragraph in
    let more = flat_map (dumped true) os in
    let shape : (ended one ++ more) ++ rest ≡ one ++ 10 ∷ (more ++ rest) = append_assoc (ended one)
    more rest ∙ append_assoc one (10 ∷ []) (more ++ rest) in
    ap entries shape
    ∙ canonical_leads o.paragraph (more ++ rest) (has_attribute o.paragraph source o all.0.read)
    all.0.fields all.0.small
    ∙ ap (λ es. Ok o.paragraph ∷ es) (texts_lead source os rest all.1)

-- no digit is an LF
unbroken_glyph : (d : ℕ) → is_line_feed (digit_glyph false d) ≡ false
unbroken_glyph d = grind (arith, nat_tests)

unbroken_by : (b : Bool) (d : ℕ) (acc more : List ℕ) → list_any is_line_feed acc ≡ false →
    list_any is_line_feed more ≡ false → list_any is_line_feed
    (cond b (digit_glyph false d ∷ acc) more) ≡ false
unbroken_by true d acc more free rest = rw (unbroken_glyph d, free) refl
unbroken_by false d acc more free rest = rest

unbroken_digits : (k n : ℕ) (acc : List ℕ) → list_any is_line_feed acc ≡ false →
    list_any is_line_feed (digits_onto k 10 false n acc) ≡ false
unbroken_digits zero n acc free = free
unbroken_digits (suc k) n acc free =
    unbroken_by (n / 10 == 0) (n % 10) acc _ free
    (unbroken_digits k (n / 10) (digit_glyph false (n % 10) ∷ acc)
    (rw (unbroken_glyph (n % 10), free) refl))

unbroken_decimal : (n : ℕ) → list_any is_line_feed (decimal n) ≡ false
unfolding digits
unbroken_decimal n = unbroken_digits 64 n [] refl

-- a line with no LF in it is one line
right_false : (a b : Bool) → (a || b) ≡ false → b ≡ false
right_false true b e = absurd (cc)
right_false false b e = e

left_false : (a b : Bool) → (a || b) ≡ false → a ≡ false
left_false true b e = e
left_false false b e = refl

one_line : (line : List ℕ) → list_any is_line_feed line ≡ false → text_lines (ended line)
    ≡ ended line ∷ []
unfolding text_lines
one_line [] free = refl
one_line (b ∷ bs) free =
    rw (
      left_false (is_line_feed b) (list_any is_line_feed bs) free,
      one_line bs (right_false (is_line_feed b) (list_any is_line_feed bs) free),
    ) refl

-- the last line of a dump is skipped
end_passed : (count : ℕ) → entries (end_line count) ≡ []
end_passed count =
    let line = codes "% end " ++ decimal count in
    let free : list_any is_line_feed line ≡ false = list_any-append is_line_feed (codes "% end ")
    (decimal count) ∙ unbroken_decimal count in
    let whole : IsWholeLine (ended line) = record {
      single = one_line line free;
      ended =
          ended_whole line;
    } in
    ap entries (sym (append-nil (ended line))) ∙ entries_passed (ended line) [] whole refl
    ∙ no_entries

pub dump_entries : (source : List ℕ) (os : List Obj) (count : ℕ) →
    AllByRecursion (IsPrinted source) os → entries (flat_map (dumped true) os ++ end_line count)
    ≡ entries_of os
dump_entries source os count all = texts_lead source os (end_line count) all
    ∙ ap (λ es. entries_of os ++ es) (end_passed count) ∙ append-nil (entries_of os)

-- and these read as the objects
entries_read : (source : List ℕ) (n : ℕ) (os : List Obj) → AllByRecursion (IsPrinted source) os →
    objects_from source n (entries_of os) ≡ Ok os
entries_read source n [] all = refl
entries_read source n (o ∷ os) all = λ i. with_first (object_result n (all.0.read i))
    (entries_read source (n + 1) os all.1 i)

pub dump_read : (source : List ℕ) (os : List Obj) (count : ℕ) → AllByRecursion (IsPrinted source)
    os → objects_from source 1 (entries (flat_map (dumped true) os ++ end_line count)) ≡ Ok os
dump_read source os count all = ap (objects_from source 1) (dump_entries source os count all)
    ∙ entries_read source 1 os all
