-- Texts of plain bytes: no blanks, commas, comments or control bytes stand in them.
use Rattle.std.proofs.Common.{◌≡◌, ℕ, ◌<◌, ◌==◌, Bool, true, false, not, ◌&&◌, length, List, []}
use Rattle.std.proofs.Common.{◌∷◌, ◌++◌, refl, sym, ap, ◌∙◌, arith, nat_lt, append_assoc}
use Rattle.std.proofs.lemmas.Bool.Decides.{nat_tests}
use Rattle.std.proofs.lemmas.List.{append-nil}
use Rattle.std.proofs.lemmas.List.Folds.{list_all-append}
use Rattle.std.proofs.Math.Seq.{take-length}
use Rattle.std.specs.List.{before_first, list_all, list_any, position_or_len, slice_split}
use Rattle.rr_bytes.specs.Blanks.{is_blank, is_blank_or_comma, is_blank_or_line_feed, is_line_feed}
use Rattle.rr_bytes.specs.Trims.{before_trimmed, trim, trim_end, trim_start}
use Rattle.rr_text.specs.Bytes.{is_hash, is_refused}
use Rattle.rr_text.specs.Fields.{IsLine}
use Rattle.rr_text.specs.Meanings.{uncommented, value_meaning}

-- a byte after the comma and before DEL: `-`, digits, letters, `:` and `_` are such
abbrev pub is_plain : ℕ → Bool
is_plain b = nat_lt 44 b && nat_lt b 127

-- a printed byte that begins no comment: a plain byte or a space is one
abbrev pub is_shown : ℕ → Bool
is_shown b = nat_lt 31 b && (nat_lt b 127 && not (b == 35))

pub both_true : (a b : Bool) → (a && b) ≡ true → (a ≡ true) × (b ≡ true)
both_true true true e = (refl, refl)
both_true true false e = absurd (cc)
both_true false b e = absurd (cc)

-- where each byte passes a test, each passes one that follows from it
pub all_follow : (p q : ℕ → Bool) → ((b : ℕ) → p b ≡ true → q b ≡ true) → (bs : List ℕ) →
    list_all p bs ≡ true → list_all q bs ≡ true
all_follow p q follows [] all = refl
all_follow p q follows (b ∷ bs) all =
    let parts = both_true (p b) (list_all p bs) all in
    rw (follows b parts.0, all_follow p q follows bs parts.1) refl

-- and none passes one that is apart from it
pub none_follows : (p q : ℕ → Bool) → ((b : ℕ) → p b ≡ true → q b ≡ false) → (bs : List ℕ) →
    list_all p bs ≡ true → list_any q bs ≡ false
none_follows p q apart [] all = refl
none_follows p q apart (b ∷ bs) all =
    let parts = both_true (p b) (list_all p bs) all in
    rw (apart b parts.0, none_follows p q apart bs parts.1) refl

-- a text of which no byte separates is one part
pub split_whole : (p q : ℕ → Bool) → ((b : ℕ) → p b ≡ true → q b ≡ false) → (bs : List ℕ) →
    list_all p bs ≡ true → slice_split q bs ≡ bs ∷ []
split_whole p q apart [] all = refl
split_whole p q apart (b ∷ bs) all =
    let parts = both_true (p b) (list_all p bs) all in
    rw (apart b parts.0, split_whole p q apart bs parts.1) refl

-- and the first part of one that goes on after a separator
pub split_after : (p q : ℕ → Bool) → ((b : ℕ) → p b ≡ true → q b ≡ false) → (bs : List ℕ) (s : ℕ)
    (further : List ℕ) → list_all p bs ≡ true → q s ≡ true
    → slice_split q (bs ++ (s ∷ further)) ≡ bs ∷ slice_split q further
split_after p q apart [] s further all is = rw is refl
split_after p q apart (b ∷ bs) s further all is =
    let parts = both_true (p b) (list_all p bs) all in
    rw (apart b parts.0, split_after p q apart bs s further parts.1 is) refl

-- no byte of it passes the test, so the whole stands before the first that does
place_none : (p q : ℕ → Bool) → ((b : ℕ) → p b ≡ true → q b ≡ false) → (bs : List ℕ) →
    list_all p bs ≡ true → position_or_len q bs ≡ length bs
place_none p q apart [] all = refl
place_none p q apart (b ∷ bs) all =
    let parts = both_true (p b) (list_all p bs) all in
    let rest = place_none p q apart bs parts.1 in
    let here = apart b parts.0 in
    grind (arith, nat_tests)

pub whole_before : (p q : ℕ → Bool) → ((b : ℕ) → p b ≡ true → q b ≡ false) → (bs : List ℕ) →
    list_all p bs ≡ true → before_first q bs ≡ bs
whole_before p q apart bs all = rw (place_none p q apart bs all) (take-length bs)

-- nothing is trimmed off its start
pub start_kept : (p q : ℕ → Bool) → ((b : ℕ) → p b ≡ true → q b ≡ false) → (bs further : List ℕ) →
    list_all p bs ≡ true → 0 < length bs
    → trim_start q (bs ++ further) ≡ bs ++ further
unfolding trim_start
start_kept p q apart [] further all some = absurd (omega arith)
start_kept p q apart (b ∷ bs) further all some =
    rw (apart b (both_true (p b) (list_all p bs) all).0) refl

-- nor off its end
end_kept : (p q : ℕ → Bool) → ((b : ℕ) → p b ≡ true → q b ≡ false) → (bs : List ℕ) → list_all p bs
    ≡ true → trim_end q bs ≡ bs
unfolding trim_end
end_kept p q apart [] all = refl
end_kept p q apart (b ∷ []) all = rw (apart b (both_true (p b) true all).0) refl
end_kept p q apart (b ∷ (c ∷ cs)) all =
    ap (before_trimmed q b)
    (end_kept p q apart (c ∷ cs) (both_true (p b) (list_all p (c ∷ cs)) all).1)

before_some : (q : ℕ → Bool) (b : ℕ) (bs : List ℕ) → 0 < length bs → before_trimmed q b bs ≡ b ∷ bs
before_some q b [] some = absurd (omega arith)
before_some q b (c ∷ cs) some = refl

some_after : (bs further : List ℕ) → 0 < length further → 0 < length (bs ++ further)
some_after [] further some = some
some_after (b ∷ bs) further some = omega arith

pub after_kept : (p q : ℕ → Bool) → ((b : ℕ) → p b ≡ true → q b ≡ false) → (prefix bs : List ℕ) →
    list_all p bs ≡ true → 0 < length bs
    → trim_end q (prefix ++ bs) ≡ prefix ++ bs
unfolding trim_end
after_kept p q apart [] bs all some = end_kept p q apart bs all
after_kept p q apart (f ∷ prefix) bs all some =
    ap (before_trimmed q f) (after_kept p q apart prefix bs all some) ∙ before_some q f
    (prefix ++ bs) (some_after prefix bs some)

-- what plain and printed bytes are apart from
plain_unblank : (b : ℕ) → is_plain b ≡ true → is_blank_or_line_feed b ≡ false
plain_unblank b is = grind (arith, nat_tests)

pub plain_blank : (b : ℕ) → is_plain b ≡ true → is_blank b ≡ false
plain_blank b is = grind (arith, nat_tests)

pub plain_item : (b : ℕ) → is_plain b ≡ true → is_blank_or_comma b ≡ false
plain_item b is = grind (arith, nat_tests)

plain_shown : (b : ℕ) → is_plain b ≡ true → is_shown b ≡ true
plain_shown b is = grind (arith, nat_tests)

shown_hash : (b : ℕ) → is_shown b ≡ true → is_hash b ≡ false
shown_hash b is = grind (arith, nat_tests)

shown_line_feed : (b : ℕ) → is_shown b ≡ true → is_line_feed b ≡ false
shown_line_feed b is = grind (arith, nat_tests)

shown_refused : (b : ℕ) → is_shown b ≡ true → is_refused b ≡ false
shown_refused b is = grind (arith, nat_tests)

-- a line of printed bytes with no blanks round it and no comment in it
pub record IsShown (line : List ℕ) : Type 0 where
  pub all : list_all is_shown line ≡ true
  pub trimmed : trim is_blank_or_line_feed line ≡ line

pub shown_line : (line : List ℕ) → IsShown line → IsLine line
shown_line line is = record {
  trimmed = is.trimmed;
  unbroken = ap not (none_follows is_shown is_line_feed shown_line_feed line is.all);
  clean = ap not (none_follows is_shown is_refused shown_refused line is.all);
}

pub shown_meaning : (line : List ℕ) → IsShown line → value_meaning (line ∷ []) ≡ line
unfolding value_meaning
shown_meaning line is =
    let bare : uncommented line ≡ line =
    ap (trim is_blank_or_line_feed) (whole_before is_shown is_hash shown_hash line is.all)
    ∙ is.trimmed in
    ap (trim is_blank_or_line_feed) bare ∙ is.trimmed

-- a text that begins and ends in plain bytes, with printed ones between them
pub shown_between : (prefix middle back : List ℕ) → list_all is_plain prefix ≡ true →
    0 < length prefix → list_all is_shown middle ≡ true
    → list_all is_plain back ≡ true → 0 < length back → IsShown (prefix ++ (middle ++ back))
shown_between prefix middle back head_plain prefix_some middle_shown back_plain back_some =
    let prefix_shown = all_follow is_plain is_shown plain_shown prefix head_plain in
    let back_shown = all_follow is_plain is_shown plain_shown back back_plain in
    let started = start_kept is_plain is_blank_or_line_feed plain_unblank prefix (middle ++ back)
    head_plain prefix_some in
    let ended = after_kept is_plain is_blank_or_line_feed plain_unblank (prefix ++ middle) back
    back_plain back_some in
    record {
      all = rw (
        list_all-append is_shown prefix (middle ++ back),
        prefix_shown,
        list_all-append is_shown middle back,
        middle_shown,
        back_shown,
      ) refl;
      trimmed = ap (trim_end is_blank_or_line_feed) started
          ∙ (rw (← append_assoc prefix middle back) ended);
    }

-- a plain text is a line
pub shown_plain : (text : List ℕ) → list_all is_plain text ≡ true → 0 < length text → IsShown text
shown_plain text plain some = record {
  all = all_follow is_plain is_shown plain_shown text plain;
  trimmed =
      ap (trim_end is_blank_or_line_feed) (ap (trim_start is_blank_or_line_feed)
      (sym (append-nil text)) ∙ start_kept is_plain is_blank_or_line_feed plain_unblank text []
      plain some ∙ append-nil text)
      ∙ end_kept is_plain is_blank_or_line_feed plain_unblank text plain;
}
