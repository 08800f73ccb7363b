-- What stands in a text after a prefix: for `comparing`.
use Rattle.std.proofs.Common.{◌≡◌, ◌≢◌, ◌==◌, ◌&&◌, ◌<◌, ◌+◌, ℕ, Bool, true, false, List, [], ◌∷◌}
use Rattle.std.proofs.Common.{◌++◌, length, take, drop, refl, sym, ap, ◌∙◌, arith, cond, Option}
use Rattle.std.proofs.Common.{Some, None, Bor}
use Rattle.std.specs.Prelude.{MatchOption}
use Rattle.std.specs.Cmp.Lexicographic.{pointwise}
use Rattle.std.specs.Str.{bytes_eq}
use Rattle.std.specs.Option.{option_and_then, option_map}
use Rattle.std.proofs.lemmas.Bool.Decides.{nat_tests, Decides-eqb}
use Rattle.std.proofs.Math.Dec.{eqb}
use Rattle.std.proofs.lemmas.Slice.Eq.{strip_prefix_is}
use Rattle.rr_text.specs.CanonicalText.{value_column, after_blanks, further_line}
use Rattle.rr_text.specs.PrivateParts.{left_after}

same_first : (b c : ℕ) (prefix text left : List ℕ) (t : Bool) → (b == c) ≡ t →
    (left_after prefix text ≡ Some left → text ≡ prefix ++ left)
    → cond t (left_after prefix text) None ≡ Some left → c ∷ text ≡ b ∷ (prefix ++ left)
same_first b c prefix text left true e more h = let same : b ≡ c = grind (arith, nat_tests) in
    let rest = more h in cc
same_first b c prefix text left false e more h = cc

-- what is left stands after the prefix
pub left_is : (prefix text left : List ℕ) → left_after prefix text ≡ Some left →
    text ≡ prefix ++ left
unfolding left_after
left_is [] text left h = cc
left_is (b ∷ prefix) [] left h = cc
left_is (b ∷ prefix) (c ∷ text) left h = same_first b c prefix text left (b == c) refl
    (left_is prefix text left) h

-- and it is what stands there
pub left_found : (prefix left : List ℕ) → left_after prefix (prefix ++ left) ≡ Some left
unfolding left_after
left_found [] left = refl
left_found (b ∷ prefix) left = let same : (b == b) ≡ true = grind (arith, nat_tests) in
    rw same (left_found prefix left)

left_none : (prefix text : List ℕ) (found : Option (List ℕ)) → left_after prefix text ≡ found →
    ((left : List ℕ) → text ≢ prefix ++ left) → found ≡ None
left_none prefix text None is none = refl
left_none prefix text (Some left) is none = absurd (none left (left_is prefix text left is))

stripped_by : (bytes text : List ℕ) (result : Option (Bor (List ℕ)))
    → MatchOption result ((left : List ℕ) → text ≢ bytes ++ left) (λ left. text ≡ bytes ++ left.now)
    → option_map (λ left. left.now) result ≡ left_after bytes text
stripped_by bytes text None none = sym (left_none bytes text _ refl none)
stripped_by bytes text (Some left) is = sym (ap (left_after bytes) is ∙ left_found bytes left.now)

-- by what `strip_prefix` says of bytes
pub stripped : (bytes text : List ℕ) (result : Option (Bor (List ℕ)))
    → MatchOption result (pointwise eqb (take (length bytes) text) bytes ≡ false)
    (λ left. (pointwise eqb (take (length bytes) text) bytes ≡ true)
    × (left.now ≡ drop (length bytes) text) × (length left.now + length bytes ≡ length text))
    → option_map (λ left. left.now) result ≡ left_after bytes text
stripped bytes text result cases = stripped_by bytes text result
    (strip_prefix_is Decides-eqb text bytes result cases)

-- one prefix after another
joined_first : (prefix back text : List ℕ) (t : Bool)
    → left_after (prefix ++ back) text ≡ option_and_then (left_after back) (left_after prefix text)
    → cond t (left_after (prefix ++ back) text) None ≡ option_and_then (left_after back)
    (cond t (left_after prefix text) None)
joined_first prefix back text true h = h
joined_first prefix back text false h = refl

pub left_joined : (prefix back text : List ℕ) → left_after (prefix ++ back) text ≡ option_and_then
    (left_after back) (left_after prefix text)
unfolding left_after
left_joined [] back text = refl
left_joined (b ∷ prefix) back [] = refl
left_joined (b ∷ prefix) back (c ∷ text) = joined_first prefix back text (b == c)
    (left_joined prefix back text)

-- whether nothing is left
abbrev pub is_all : Option (List ℕ) → Bool
is_all None = false
is_all (Some left) = length left == 0

some_left : (c : ℕ) (text : List ℕ) → (length (c ∷ text) == 0) ≡ false
some_left c text = grind (arith, nat_tests)

all_first : (b c : ℕ) (prefix text : List ℕ) (t : Bool) → is_all (left_after prefix text)
    ≡ pointwise eqb prefix text
    → is_all (cond t (left_after prefix text) None) ≡ (t && pointwise eqb prefix text)
all_first b c prefix text true h = h
all_first b c prefix text false h = refl

-- nothing is left after all of a text, and after no other prefix
pub all_left : (form text : List ℕ) → is_all (left_after form text) ≡ bytes_eq form text
unfolding left_after
all_left [] [] = refl
all_left [] (c ∷ text) = some_left c text
all_left (b ∷ form) [] = refl
all_left (b ∷ form) (c ∷ text) = all_first b c form text (b == c) (all_left form text)

-- a further line that is not empty
pub further_is : (line : List ℕ) → 0 < length line → further_line line ≡ after_blanks value_column
    line
further_is [] some = absurd (omega arith)
further_is (b ∷ bs) some = refl

pub ruleset further_left = (left_joined, further_is)
