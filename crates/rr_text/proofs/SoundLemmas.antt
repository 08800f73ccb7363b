-- A block without a fault gives well-formed attributes: for `entry`, and for canonical text.
-- An LF is a line's last byte alone, so that trimming takes it away. Each trim has its inductions
-- over bytes, and the lines have theirs, split by kind. Tests inside recursive functions have
-- `_by` lemmas by hand. `entry::read_entry`, `RoundTrip`, `CanonicalLines`, `KeptLemmas` and
-- `MeaningLemmas` need it.
use Rattle.std.proofs.Common.{◌≡◌, ◌≢◌, ℕ, ◌<◌, Bool, true, false, not, ◌&&◌, ◌||◌, List, [], ◌∷◌}
use Rattle.std.proofs.Common.{length, drop, refl, sym, ap, ◌∙◌, arith, Option, Some, None, suc}
use Rattle.std.proofs.Common.{zero, nat_le, if◌then◌else◌}
use Rattle.std.proofs.lemmas.Bool.Decides.{nat_tests}
use Rattle.std.proofs.lemmas.List.{length-map}
use Rattle.std.proofs.lemmas.Str.Ascii.{lowercase-lowercase}
use Rattle.std.specs.List.{list_any, list_all, AllByRecursion, onto_first, after_first}
use Rattle.std.specs.Option.{option_or}
use Rattle.std.specs.Char.{to_ascii_lowercase, is_ascii_alphabetic}
use Rattle.rr_text.specs.declared.text_fault.TextFault.{TextFault}
use Rattle.rr_text.specs.declared.text_fault.TextFault.TheVariants.{BadByte, FirstContinues}
use Rattle.rr_text.specs.declared.text_fault.TextFault.TheVariants.{NoColon, BadName}
use Rattle.rr_text.specs.declared.line.LineKind.{LineKind}
use Rattle.rr_text.specs.declared.line.LineKind.TheVariants.{Blank, Skipped, Continuation, Opening}
use Rattle.rr_bytes.specs.Blanks.{is_blank_or_line_feed, is_line_feed}
use Rattle.rr_bytes.specs.LetterCase.{lowered}
use Rattle.rr_bytes.specs.NameBytes.{begins, is_attribute_name, is_name_byte}
use Rattle.rr_bytes.specs.Trims.{before_trimmed, trim, trim_end, trim_start}
use Rattle.rr_text.specs.Bytes.{is_colon, is_refused}
use Rattle.rr_text.specs.Lines.{text_lines, line_kind, is_blank_line, is_skipped_line}
use Rattle.rr_text.specs.Lines.{is_continuation_sign}
use Rattle.rr_text.specs.PrivateParts.{opens_attribute, opens_first, starts_block}
use Rattle.rr_text.specs.Faults.{written_name, opening_fault, fault_by_kind, line_fault}
use Rattle.rr_text.specs.Faults.{later_fault, block_fault}
use Rattle.rr_text.specs.Fields.{IsLine, IsField, AreFields}
use Rattle.rr_text.specs.Entries.{continued, opened_field, opened_by, block_fields}

-- an LF stands in the last place alone
pub only_last : List ℕ → Bool
only_last [] = true
only_last (b ∷ []) = true
only_last (b ∷ c ∷ cs) = not (is_line_feed b) && only_last (c ∷ cs)

last_onto : (b : ℕ) (lines : List (List ℕ)) → is_line_feed b ≡ false →
    AllByRecursion (λ l. only_last l ≡ true) lines → AllByRecursion (λ l. only_last l ≡ true)
    (onto_first b lines)
unfolding only_last
last_onto b [] h all = (refl, tt)
last_onto b ([] ∷ others) h all = (refl, all.1)
last_onto b ((c ∷ cs) ∷ others) h all = (rw h all.0, all.1)

last_by : (t : Bool) (b : ℕ) (bs : List ℕ) → is_line_feed b ≡ t →
    AllByRecursion (λ l. only_last l ≡ true) (text_lines bs) →
    AllByRecursion (λ l. only_last l ≡ true) (text_lines (b ∷ bs))
unfolding text_lines only_last
last_by true b bs h all = rw h (refl, all)
last_by false b bs h all = rw h (last_onto b (text_lines bs) h all)

last_lines : (text : List ℕ) → AllByRecursion (λ l. only_last l ≡ true) (text_lines text)
unfolding text_lines
last_lines [] = tt
last_lines (b ∷ bs) = last_by (is_line_feed b) b bs refl (last_lines bs)

pub and_left : (a b : Bool) → (a && b) ≡ true → a ≡ true
and_left true b h = refl
and_left false b h = cc

pub and_right : (a b : Bool) → (a && b) ≡ true → b ≡ true
and_right true b h = h
and_right false b h = cc

last_tail : (b : ℕ) (bs : List ℕ) → only_last (b ∷ bs) ≡ true → only_last bs ≡ true
unfolding only_last
last_tail b [] h = refl
last_tail b (c ∷ cs) h = and_right (not (is_line_feed b)) (only_last (c ∷ cs)) h

last_drop : (n : ℕ) (bs : List ℕ) → only_last bs ≡ true → only_last (drop n bs) ≡ true
last_drop zero bs h = h
last_drop (suc n) [] h = h
last_drop (suc n) (b ∷ bs) h = last_drop n bs (last_tail b bs h)

start_by : (P : List ℕ → Type 0) (t : Bool) (b : ℕ) (bs : List ℕ) → is_blank_or_line_feed b ≡ t →
    P (b ∷ bs) → P (trim_start is_blank_or_line_feed bs) →
    P (trim_start is_blank_or_line_feed (b ∷ bs))
unfolding trim_start
start_by P true b bs h whole rec = rw h rec
start_by P false b bs h whole rec = rw h whole

last_start : (bs : List ℕ) → only_last bs ≡ true → only_last (trim_start is_blank_or_line_feed bs)
    ≡ true
unfolding trim_start
last_start [] h = h
last_start (b ∷ bs) h = start_by (λ l. only_last l ≡ true) (is_blank_or_line_feed b) b bs refl h
    (last_start bs (last_tail b bs h))

pub or_left : (a b : Bool) → (a || b) ≡ false → a ≡ false
or_left true b h = h
or_left false b h = refl

pub or_right : (a b : Bool) → (a || b) ≡ false → b ≡ false
or_right true b h = cc
or_right false b h = h

pub any_tail : (p : ℕ → Bool) (b : ℕ) (bs : List ℕ) → list_any p (b ∷ bs) ≡ false → list_any p bs
    ≡ false
any_tail p b bs h = or_right (p b) (list_any p bs) h

pub any_cons : (p : ℕ → Bool) (b : ℕ) (bs : List ℕ) → p b ≡ false → list_any p bs ≡ false →
    list_any p (b ∷ bs) ≡ false
any_cons p b bs h e = rw h e

any_drop : (p : ℕ → Bool) (n : ℕ) (bs : List ℕ) → list_any p bs ≡ false → list_any p (drop n bs)
    ≡ false
any_drop p zero bs h = h
any_drop p (suc n) [] h = h
any_drop p (suc n) (b ∷ bs) h = any_drop p n bs (any_tail p b bs h)

any_start : (p : ℕ → Bool) (bs : List ℕ) → list_any p bs ≡ false →
    list_any p (trim_start is_blank_or_line_feed bs) ≡ false
unfolding trim_start
any_start p [] h = h
any_start p (b ∷ bs) h = start_by (λ l. list_any p l ≡ false) (is_blank_or_line_feed b) b bs refl h
    (any_start p bs (any_tail p b bs h))

any_before_by : (p : ℕ → Bool) (t : Bool) (b : ℕ) → is_blank_or_line_feed b ≡ t → p b ≡ false →
    list_any p (before_trimmed is_blank_or_line_feed b []) ≡ false
any_before_by p true b h e = rw h refl
any_before_by p false b h e = rw (h, e) refl

any_before : (p : ℕ → Bool) (b : ℕ) (rest : List ℕ) → p b ≡ false → list_any p rest ≡ false →
    list_any p (before_trimmed is_blank_or_line_feed b rest) ≡ false
any_before p b [] h e = any_before_by p (is_blank_or_line_feed b) b refl h
any_before p b (c ∷ cs) h e = any_cons p b (c ∷ cs) h e

any_end : (p : ℕ → Bool) (bs : List ℕ) → list_any p bs ≡ false →
    list_any p (trim_end is_blank_or_line_feed bs) ≡ false
unfolding trim_end
any_end p [] h = h
any_end p (b ∷ bs) h = any_before p b (trim_end is_blank_or_line_feed bs)
    (or_left (p b) (list_any p bs) h) (any_end p bs (any_tail p b bs h))

-- an LF at the end is a blank there
feed_by : (t : Bool) (b : ℕ) → is_blank_or_line_feed b ≡ t → list_any is_line_feed
    (before_trimmed is_blank_or_line_feed b []) ≡ false
feed_by true b h = rw h refl
feed_by false b h = rw h (grind (arith, nat_tests))

pub not_false : (a : Bool) → not a ≡ true → a ≡ false
not_false true h = cc
not_false false h = refl

unbroken_end : (bs : List ℕ) → only_last bs ≡ true → list_any is_line_feed
    (trim_end is_blank_or_line_feed bs) ≡ false
unfolding trim_end only_last
unbroken_end [] h = refl
unbroken_end (b ∷ []) h = feed_by (is_blank_or_line_feed b) b refl
unbroken_end (b ∷ c ∷ cs) h =
    any_before is_line_feed b (trim_end is_blank_or_line_feed (c ∷ cs))
    (not_false _ (and_left _ _ h)) (unbroken_end (c ∷ cs) (and_right _ _ h))

begins_start_by : (t : Bool) (b : ℕ) (bs : List ℕ) → is_blank_or_line_feed b ≡ t →
    begins is_blank_or_line_feed (trim_start is_blank_or_line_feed bs) ≡ false →
    begins is_blank_or_line_feed (trim_start is_blank_or_line_feed (b ∷ bs)) ≡ false
unfolding trim_start
begins_start_by true b bs h rec = rw h rec
begins_start_by false b bs h rec = rw h h

begins_start : (bs : List ℕ) → begins is_blank_or_line_feed (trim_start is_blank_or_line_feed bs)
    ≡ false
unfolding trim_start
begins_start [] = refl
begins_start (b ∷ bs) = begins_start_by (is_blank_or_line_feed b) b bs refl (begins_start bs)

start_same : (bs : List ℕ) → begins is_blank_or_line_feed bs ≡ false →
    trim_start is_blank_or_line_feed bs ≡ bs
unfolding trim_start
start_same [] h = refl
start_same (b ∷ bs) h = rw h refl

begins_before : (b : ℕ) (rest : List ℕ) → is_blank_or_line_feed b ≡ false →
    begins is_blank_or_line_feed (before_trimmed is_blank_or_line_feed b rest) ≡ false
begins_before b [] h = rw (h, h) refl
begins_before b (c ∷ cs) h = h

begins_end : (bs : List ℕ) → begins is_blank_or_line_feed bs ≡ false → begins is_blank_or_line_feed
    (trim_end is_blank_or_line_feed bs) ≡ false
unfolding trim_end
begins_end [] h = h
begins_end (b ∷ bs) h = begins_before b (trim_end is_blank_or_line_feed bs) h

end_before_by : (t : Bool) (b : ℕ) → is_blank_or_line_feed b ≡ t → trim_end is_blank_or_line_feed
    (before_trimmed is_blank_or_line_feed b []) ≡ before_trimmed is_blank_or_line_feed b []
unfolding trim_end
end_before_by true b h = rw h refl
end_before_by false b h = rw h (rw h refl)

end_before : (b : ℕ) (rest : List ℕ) → trim_end is_blank_or_line_feed rest ≡ rest →
    trim_end is_blank_or_line_feed (before_trimmed is_blank_or_line_feed b rest) ≡ before_trimmed
    is_blank_or_line_feed b rest
unfolding trim_end
end_before b [] h = end_before_by (is_blank_or_line_feed b) b refl
end_before b (c ∷ cs) h = ap (before_trimmed is_blank_or_line_feed b) h

end_end : (bs : List ℕ) → trim_end is_blank_or_line_feed (trim_end is_blank_or_line_feed bs)
    ≡ trim_end is_blank_or_line_feed bs
unfolding trim_end
end_end [] = refl
end_end (b ∷ bs) = end_before b (trim_end is_blank_or_line_feed bs) (end_end bs)

-- a trimmed text stays as it is
pub trim-trim : (bs : List ℕ) → trim is_blank_or_line_feed (trim is_blank_or_line_feed bs)
    ≡ trim is_blank_or_line_feed bs
trim-trim bs =
    let begins_so = begins_end (trim_start is_blank_or_line_feed bs) (begins_start bs) in
    ap (trim_end is_blank_or_line_feed) (start_same (trim is_blank_or_line_feed bs) begins_so)
    ∙ end_end (trim_start is_blank_or_line_feed bs)

pub false_not : (a : Bool) → a ≡ false → not a ≡ true
false_not true h = cc
false_not false h = refl

value_line : (bs : List ℕ) → only_last bs ≡ true → list_any is_refused bs ≡ false →
    IsLine (trim is_blank_or_line_feed bs)
value_line bs last clean = record {
  trimmed = trim-trim bs;
  unbroken = false_not _ (unbroken_end (trim_start is_blank_or_line_feed bs) (last_start bs last));
  clean = false_not _ (any_end is_refused (trim_start is_blank_or_line_feed bs)
      (any_start is_refused bs clean));
}

lower_begins : (name : List ℕ) → begins is_ascii_alphabetic name ≡ true →
    begins is_ascii_alphabetic (lowered name) ≡ true
lower_begins [] h = h
lower_begins (b ∷ bs) h = grind (arith, nat_tests)

lower_byte : (b : ℕ) → is_name_byte b ≡ true → is_name_byte (to_ascii_lowercase b) ≡ true
lower_byte b h = grind (arith, nat_tests)

pub and_both : (a b : Bool) → a ≡ true → b ≡ true → (a && b) ≡ true
and_both a b h e = rw (h, e) refl

lower_all : (name : List ℕ) → list_all is_name_byte name ≡ true → list_all is_name_byte
    (lowered name) ≡ true
lower_all [] h = h
lower_all (b ∷ bs) h = and_both _ _ (lower_byte b (and_left _ _ h)) (lower_all bs (and_right _ _ h))

lower_name : (name : List ℕ) → is_attribute_name name ≡ true → is_attribute_name (lowered name)
    ≡ true
lower_name name h =
    let prefix = and_left (begins is_ascii_alphabetic name && list_all is_name_byte name)
    (nat_le (length name) 64) h in
    and_both _ _ (and_both _ _ (lower_begins name (and_left _ _ prefix))
    (lower_all name (and_right (begins is_ascii_alphabetic name) _ prefix)))
    (ap (λ n. nat_le n 64) (length-map name to_ascii_lowercase) ∙ and_right
    (begins is_ascii_alphabetic name && list_all is_name_byte name) _ h)

lower_lower : (name : List ℕ) → lowered (lowered name) ≡ lowered name
lower_lower [] = refl
lower_lower (b ∷ bs) = rw (lowercase-lowercase b, lower_lower bs) refl

-- a line of a block without a fault
pub record IsGood (line : List ℕ) : Type 0 where
  pub last : only_last line ≡ true
  pub fault : line_fault false line ≡ None

clean_by : (t : Bool) (line : List ℕ) (fault : Option TextFault) → list_any is_refused line ≡ t →
    (if t then Some BadByte else fault) ≡ None → (list_any is_refused line ≡ false) × (fault ≡ None)
clean_by true line fault e h = cc
clean_by false line fault e h = (e, h)

named_by : (colon named : Bool) →
    (if not colon then Some NoColon else (if not named then Some BadName else None)) ≡ None →
    named ≡ true
named_by true true h = refl
named_by true false h = cc
named_by false named h = cc

good_continuation : (line : List ℕ) → line_kind line ≡ Continuation → line_fault false line
    ≡ None → list_any is_refused line ≡ false
unfolding line_fault
good_continuation line is h =
    let by : fault_by_kind false line Continuation ≡ None = ap (fault_by_kind false line) (sym is)
    ∙ h in
    (clean_by (list_any is_refused line) line None refl by).0

good_opening : (line : List ℕ) → line_kind line ≡ Opening → line_fault false line ≡ None →
    (list_any is_refused line ≡ false) × (is_attribute_name (written_name line) ≡ true)
unfolding line_fault opening_fault
good_opening line is h =
    let by : fault_by_kind false line Opening ≡ None = ap (fault_by_kind false line) (sym is) ∙ h in
    let clean = clean_by (list_any is_refused line) line (opening_fault line) refl by in
    (clean.0, named_by (list_any is_colon line) (is_attribute_name (written_name line)) clean.1)

continued_by_good : (kind : LineKind) (line : List ℕ) (others : List (List ℕ)) → line_kind line
    ≡ kind → IsGood line → AllByRecursion IsLine (continued others) → AllByRecursion IsLine
    (continued (line ∷ others))
unfolding continued
continued_by_good Blank line others is good all = rw is all
continued_by_good Skipped line others is good all = rw is all
continued_by_good Continuation line others is good all =
    rw is (
      value_line (drop 1 line) (last_drop 1 line good.last)
          (any_drop is_refused 1 line (good_continuation line is good.fault)),
      all,
    )
continued_by_good Opening line others is good all = rw is tt

continued_good : (lines : List (List ℕ)) → AllByRecursion IsGood lines → AllByRecursion IsLine
    (continued lines)
unfolding continued
continued_good [] good = tt
continued_good (line ∷ others) good = continued_by_good (line_kind line) line others refl good.0
    (continued_good others good.1)

opened_good : (line : List ℕ) (more : List (List ℕ)) → line_kind line ≡ Opening → IsGood line →
    AllByRecursion IsLine more → IsField (opened_field line more)
opened_good line more is good all =
    let clean = good_opening line is good.fault in
    record {
      named = lower_name (written_name line) clean.1;
      lower = lower_lower (written_name line);
      some = omega arith;
      good = (
        value_line (after_first is_colon line) (last_drop _ line good.last)
            (any_drop is_refused _ line clean.0),
        all,
      );
    }

fields_by_good : (kind : LineKind) (line : List ℕ) (others : List (List ℕ)) → line_kind line
    ≡ kind → IsGood line → AllByRecursion IsGood others → AreFields (block_fields others) →
    AreFields (block_fields (line ∷ others))
unfolding block_fields
fields_by_good Blank line others is good goods all = rw is all
fields_by_good Skipped line others is good goods all = rw is all
fields_by_good Continuation line others is good goods all = rw is all
fields_by_good Opening line others is good goods all =
    rw is (opened_good line (continued others) is good (continued_good others goods), all)

fields_good : (lines : List (List ℕ)) → AllByRecursion IsGood lines → AreFields (block_fields lines)
unfolding block_fields
fields_good [] good = tt
fields_good (line ∷ others) good = fields_by_good (line_kind line) line others refl good.0 good.1
    (fields_good others good.1)

or_none : (a b : Option TextFault) → option_or a b ≡ None → (a ≡ None) × (b ≡ None)
or_none None b h = (refl, h)
or_none (Some fault) b h = cc

later_good : (lines : List (List ℕ)) → later_fault lines ≡ None →
    AllByRecursion (λ l. only_last l ≡ true) lines → AllByRecursion IsGood lines
unfolding later_fault
later_good [] h last = tt
later_good (line ∷ others) h last =
    let none = or_none (line_fault false line) (later_fault others) h in
    (record { last = last.0; fault = none.0 }, later_good others none.1 last.1)

first_by : (kind : LineKind) (refused : Bool) (line : List ℕ) → list_any is_refused line
    ≡ refused → fault_by_kind true line kind ≡ None → (fault_by_kind false line kind ≡ None)
    × (kind ≢ Continuation)
first_by Blank refused line r h = (refl, λ e. cc)
first_by Skipped refused line r h = (refl, λ e. cc)
first_by Continuation true line r h = absurd (let bad : Some BadByte ≡ None = rw r at h in cc)
first_by Continuation false line r h = absurd (let bad : Some FirstContinues ≡ None = rw r at h in
    cc)
first_by Opening refused line r h = (h, λ e. cc)

first_good : (line : List ℕ) → line_fault true line ≡ None → (line_fault false line ≡ None)
    × (line_kind line ≢ Continuation)
unfolding line_fault
first_good line h = first_by (line_kind line) (list_any is_refused line) line refl h

block_good : (lines : List (List ℕ)) → block_fault lines ≡ None →
    AllByRecursion (λ l. only_last l ≡ true) lines → AllByRecursion IsGood lines
unfolding block_fault
block_good [] h last = tt
block_good (line ∷ others) h last =
    let none = or_none (line_fault true line) (later_fault others) h in
    (record { last = last.0; fault = (first_good line none.0).0 }, later_good others none.1 last.1)

-- a block without a fault gives well-formed attributes
pub sound : (block : List ℕ) → block_fault (text_lines block) ≡ None →
    AreFields (block_fields (text_lines block))
sound block h = fields_good (text_lines block) (block_good (text_lines block) h (last_lines block))

kind_by : (blank skipped continuation : Bool) → (not blank && not skipped) ≡ true
    →
    ((if blank then Blank else
    (if skipped then Skipped else (if continuation then Continuation else Opening))) ≢
    Continuation)
    →
    (if blank then Blank else
    (if skipped then Skipped else (if continuation then Continuation else Opening))) ≡ Opening
kind_by true skipped continuation h other = cc
kind_by false true continuation h other = cc
kind_by false false true h other = absurd (other refl)
kind_by false false false h other = refl

-- a block without a fault gives some attribute
pub some_fields : (lines : List (List ℕ)) → starts_block lines ≡ true → block_fault lines ≡ None →
    0 < length (block_fields lines)
unfolding block_fault block_fields line_kind
some_fields [] h none = cc
some_fields (line ∷ others) h none =
    let first = first_good line (or_none (line_fault true line) (later_fault others) none).0 in
    let is : line_kind line ≡ Opening = kind_by (is_blank_line line) (is_skipped_line line)
    (begins is_continuation_sign line) h first.1 in
    let fields : block_fields (line ∷ others) ≡ opened_field line (continued others) ∷ block_fields
    others =
    ap (λ kind. opened_by line kind (continued others) (block_fields others)) is
    in rw fields (omega arith)

-- and it begins with a line that opens one
pub opens_block : (lines : List (List ℕ)) → starts_block lines ≡ true → block_fault lines ≡ None →
    opens_first lines ≡ true
unfolding block_fault line_kind
opens_block [] h none = cc
opens_block (line ∷ others) h none =
    let first = first_good line (or_none (line_fault true line) (later_fault others) none).0 in
    let is : line_kind line ≡ Opening = kind_by (is_blank_line line) (is_skipped_line line)
    (begins is_continuation_sign line) h first.1 in
    ap opens_attribute is
