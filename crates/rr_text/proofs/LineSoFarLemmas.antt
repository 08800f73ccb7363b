-- Lemmas on lines of which a prefix was read: for `line_so_far` and `draft`.
use Rattle.std.proofs.Common.{◌≡◌, ◌≢◌, ℕ, ◌-◌, ◌<◌, Bool, true, false, not, ◌&&◌, ◌||◌, nat_eq}
use Rattle.std.proofs.Common.{List, [], ◌∷◌, ◌++◌, length, length-append, get_or, suc, refl, ap}
use Rattle.std.proofs.Common.{◌∙◌, arith}
use Rattle.std.proofs.lemmas.Bool.Decides.{nat_tests}
use Rattle.std.proofs.Math.Bool.{and-false}
use Rattle.std.proofs.lemmas.List.Folds.{list_all-append}
use Rattle.std.specs.List.{list_any, onto_first}
use Rattle.rr_text.specs.declared.line_so_far.LineEnd.{LineEnd}
use Rattle.rr_text.specs.declared.line_so_far.LineEnd.TheVariants.{Passed, Taken, Closed}
use Rattle.rr_text.specs.LineParts.{line_so_far, line_with, end_of_line}
use Rattle.rr_bytes.specs.Blanks.{is_blank_or_line_feed, is_line_feed}
use Rattle.rr_text.specs.Lines.{text_lines, are_whole_lines, is_blank_line, is_paragraph_line}
use Rattle.rr_text.specs.Lines.{is_remark_sign}

pub or_none : (a b : Bool) → (a || b) ≡ false → (a ≡ false) × (b ≡ false)
or_none false b h = (refl, h)
or_none true b h = cc

-- the last byte says whether a text ends with its line
pub last_ends : (bs : List ℕ) → 0 < length bs → nat_eq (get_or bs (length bs - 1) 0) 10
    ≡ are_whole_lines bs
unfolding are_whole_lines
last_ends [] h = absurd (omega arith)
last_ends (b ∷ []) h = refl
last_ends (b ∷ c ∷ cs) h =
    let e : length (b ∷ c ∷ cs) - 1 ≡ suc (length (c ∷ cs) - 1) = omega arith in
    rw e (last_ends (c ∷ cs) (omega arith))

one_under : (b : ℕ) (lines : List (List ℕ)) (bs : List ℕ) → bs ≢ [] → onto_first b lines ≡ (b ∷ bs)
    ∷ [] → lines ≡ bs ∷ []
one_under b [] bs some e = absurd (some (cc))
one_under b (line ∷ lines) bs some e = cc

unended_by : (t : Bool) (b c : ℕ) (cs : List ℕ) → is_line_feed b ≡ t → text_lines (b ∷ c ∷ cs)
    ≡ (b ∷ c ∷ cs) ∷ []
    → (text_lines (c ∷ cs) ≡ (c ∷ cs) ∷ [] → list_any is_line_feed (c ∷ cs) ≡ false) →
    list_any is_line_feed (b ∷ c ∷ cs) ≡ false
unfolding text_lines
unended_by true b c cs h single rec = let e = rw h at single in cc
unended_by false b c cs h single rec =
    let e : onto_first b (text_lines (c ∷ cs)) ≡ (b ∷ c ∷ cs) ∷ [] = rw h at single in
    rw h (rec (one_under b (text_lines (c ∷ cs)) (c ∷ cs) (λ z. cc) e))

-- a piece of a line without the LF that ends it has none
pub unended : (piece : List ℕ) → text_lines piece ≡ piece ∷ [] → are_whole_lines piece ≡ false →
    list_any is_line_feed piece ≡ false
unfolding are_whole_lines
unended [] single h = refl
unended (b ∷ []) single h = rw h refl
unended (b ∷ c ∷ cs) single h = unended_by (is_line_feed b) b c cs refl single
    (λ one. unended (c ∷ cs) one h)

-- a line goes on up to its LF
pub single_after : (line piece : List ℕ) → list_any is_line_feed line ≡ false → text_lines piece
    ≡ piece ∷ [] → text_lines (line ++ piece) ≡ (line ++ piece) ∷ []
unfolding text_lines
single_after [] piece h single = single
single_after (b ∷ bs) piece h single =
    let none = or_none (is_line_feed b) (list_any is_line_feed bs) h in
    let first : is_line_feed b ≡ false = none.0 in
    rw first (ap (onto_first b) (single_after bs piece none.1 single))

whole_onto : (b : ℕ) (bs : List ℕ) → 0 < length bs → are_whole_lines (b ∷ bs) ≡ are_whole_lines bs
unfolding are_whole_lines
whole_onto b [] h = absurd (omega arith)
whole_onto b (c ∷ cs) h = refl

pub whole_after : (line piece : List ℕ) → 0 < length piece → are_whole_lines piece ≡ true →
    are_whole_lines (line ++ piece) ≡ true
whole_after [] piece some h = h
whole_after (b ∷ bs) piece some h = whole_onto b (bs ++ piece)
    (omega (arith, length-append bs piece)) ∙ whole_after bs piece some h

with_by : (t u v : Bool) (b : ℕ) (bs more : List ℕ) → is_remark_sign b ≡ t → is_blank_line (b ∷ bs)
    ≡ u → is_blank_line more ≡ v
    → line_with (line_so_far (b ∷ bs)) more ≡ line_so_far (b ∷ (bs ++ more))
with_by true u v b bs more h k m = rw h refl
with_by false true true b bs more h k m = let all : is_blank_line (b ∷ (bs ++ more)) ≡ true =
    list_all-append is_blank_or_line_feed (b ∷ bs) more ∙ (ap (λ t. t && is_blank_line more) k ∙ m)
    in rw (h, k, all, m) refl
with_by false true false b bs more h k m = let all : is_blank_line (b ∷ (bs ++ more)) ≡ false =
    list_all-append is_blank_or_line_feed (b ∷ bs) more ∙ (ap (λ t. t && is_blank_line more) k ∙ m)
    in rw (h, k, all, m) refl
with_by false false v b bs more h k m = let all : is_blank_line (b ∷ (bs ++ more)) ≡ false =
    list_all-append is_blank_or_line_feed (b ∷ bs) more ∙ ap (λ t. t && is_blank_line more) k in
    rw (h, k, all) refl

-- what is known of a prefix, and then of a longer one
pub line_with-append : (line more : List ℕ) → line_with (line_so_far line) more ≡ line_so_far
    (line ++ more)
line_with-append [] more = refl
line_with-append (b ∷ bs) more = with_by (is_remark_sign b) (is_blank_line (b ∷ bs))
    (is_blank_line more) b bs more refl refl refl

-- what a line is at its end, by what its end does
abbrev pub EndsSo : Bool → List ℕ → LineEnd → Type 0
EndsSo started line Passed = (started ≡ false) × (is_paragraph_line line ≡ false)
EndsSo started line Taken = (is_blank_line line ≡ false)
    × ((started || is_paragraph_line line) ≡ true)
EndsSo started line Closed = (started ≡ true) × (is_blank_line line ≡ true)

unblank_sign : (b : ℕ) → is_remark_sign b ≡ true → is_blank_or_line_feed b ≡ false
unblank_sign b h = grind (arith, nat_tests)

ends_by : (t u started : Bool) (b : ℕ) (bs : List ℕ) → is_remark_sign b ≡ t →
    is_blank_line (b ∷ bs) ≡ u → EndsSo started (b ∷ bs)
    (end_of_line started (line_so_far (b ∷ bs)))
ends_by true u true b bs h k = let blank : is_blank_or_line_feed b ≡ false = unblank_sign b h in
    rw h (rw blank refl, refl)
ends_by true u false b bs h k = rw h (refl, rw h (and-false (not (is_blank_line (b ∷ bs)))))
ends_by false true true b bs h k = rw (h, k) (refl, k)
ends_by false true false b bs h k = rw (h, k) (refl, rw k refl)
ends_by false false true b bs h k = rw (h, k) (k, refl)
ends_by false false false b bs h k = rw (h, k) (k, rw (k, h) refl)

pub ends_so : (started : Bool) (line : List ℕ) →
    EndsSo started line (end_of_line started (line_so_far line))
ends_so true [] = (refl, refl)
ends_so false [] = (refl, refl)
ends_so started (b ∷ bs) = ends_by (is_remark_sign b) (is_blank_line (b ∷ bs)) started b bs refl
    refl
