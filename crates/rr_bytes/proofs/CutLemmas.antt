-- Lemmas on texts cut at a separator: for the texts of numbers and names of `rr_number`.
use Rattle.std.proofs.Common.{◌≡◌, ℕ, ◌+◌, ◌<◌, ◌==◌, true, false, List, [], ◌∷◌, ◌++◌, length}
use Rattle.std.proofs.Common.{take, drop, Some, nat_lt, get_or, refl, ap, sym, arith, length-append}
use Rattle.std.proofs.Common.{None, ◌⊎◌, inl, inr}
use Rattle.std.proofs.lemmas.Bool.Decides.{nat_tests}
use Rattle.std.proofs.lemmas.Grind.{common_steps}
use Rattle.std.proofs.lemmas.List.{take_at, append-nil}
use Rattle.std.proofs.lemmas.List.Sums.{split_at_first, passes_at_first}
use Rattle.std.proofs.lemmas.Option.{cond_some}
use Rattle.std.specs.Char.{is_ascii_digit}
use Rattle.std.specs.List.{before_first, after_first, position_or_len}
use Rattle.std.specs.Prelude.{Bool, not, ◌&&◌}
use Rattle.std.specs.Str.{all_ascii_digits}
use Rattle.rr_bytes.specs.Cuts.{cut_at}

-- no byte of the text is the separator
abbrev pub lacks : ℕ → List ℕ → Bool
lacks separator [] = true
lacks separator (b ∷ bs) = not (b == separator) && lacks separator bs

-- a text is its part before the first separator, the separator, and the part after it
pub cut_at-joined : (s : ℕ) (text before after : List ℕ) → cut_at s text ≡ Some (before, after) →
    text ≡ before ++ (s ∷ after)
unfolding cut_at
cut_at-joined s text before after cut =
    let parts = cond_some (nat_lt (position_or_len (λ b. b == s) text) (length text)) _ _ cut in
    let inside : position_or_len (λ b. b == s) text < length text =
    grind (arith, nat_tests, parts.0) in
    let same : get_or text (position_or_len (λ b. b == s) text) 0 ≡ s =
    grind (arith, nat_tests, passes_at_first (λ b. b == s) text 0 inside) in
    let head : before_first (λ b. b == s) text ≡ before = ap (λ pair. pair.0) parts.1 in
    let back : after_first (λ b. b == s) text ≡ after = ap (λ pair. pair.1) parts.1 in
    let joined : text ≡ before_first (λ b. b == s) text ++
    (get_or text (position_or_len (λ b. b == s) text) 0 ∷ after_first (λ b. b == s) text) =
    split_at_first (λ b. b == s) text 0 inside in
    (cc)

-- the place of the first separator after a text without one
position-lacks : (s : ℕ) (before after : List ℕ) → lacks s before ≡ true →
    position_or_len (λ b. b == s) (before ++ (s ∷ after)) ≡ length before
position-lacks s [] after none = grind (arith, nat_tests)
position-lacks s (b ∷ bs) after none = grind (arith, nat_tests, position-lacks s bs after)

-- the text after a first part and one byte more
drop-after : (xs : List ℕ) (s : ℕ) (ys : List ℕ) → drop (length xs + 1) (xs ++ (s ∷ ys)) ≡ ys
drop-after [] s ys = refl
drop-after (x ∷ xs) s ys = grind (arith, common_steps, drop-after xs s ys)

-- a text without the separator, and one more after it, are cut there
pub cut_at-append : (s : ℕ) (before after : List ℕ) → lacks s before ≡ true →
    cut_at s (before ++ (s ∷ after)) ≡ Some (before, after)
unfolding cut_at
cut_at-append s before after none =
    let place : position_or_len (λ b. b == s) (before ++ (s ∷ after)) ≡ length before =
    position-lacks s before after none in
    let head : take (position_or_len (λ b. b == s) (before ++ (s ∷ after))) (before ++ (s ∷ after))
    ≡ before =
    take_at before (s ∷ after) _ (sym place) in
    let back : drop (position_or_len (λ b. b == s) (before ++ (s ∷ after)) + 1)
    (before ++ (s ∷ after)) ≡ after =
    rw place (drop-after before s after) in
    let inside : nat_lt (position_or_len (λ b. b == s) (before ++ (s ∷ after)))
    (length (before ++ (s ∷ after))) ≡ true =
    rw place (grind (arith, nat_tests, length-append before (s ∷ after))) in
    rw (inside, head, back) refl

-- digits have no separator among them
pub lacks-digits : (s : ℕ) (text : List ℕ) → is_ascii_digit s ≡ false → all_ascii_digits text
    ≡ true → lacks s text ≡ true
lacks-digits s [] other digits = refl
lacks-digits s (b ∷ bs) other digits = grind (arith, nat_tests, lacks-digits s bs other)

-- a text lacks what its parts lack
pub lacks-append : (s : ℕ) (xs ys : List ℕ) → lacks s xs ≡ true → lacks s ys ≡ true →
    lacks s (xs ++ ys) ≡ true
lacks-append s [] ys before back = back
lacks-append s (x ∷ xs) ys before back = grind (arith, nat_tests, lacks-append s xs ys)

-- two texts with another byte between them lack what both lack
pub lacks-joined : (s other : ℕ) (xs ys : List ℕ) → (other == s) ≡ false → lacks s xs ≡ true →
    lacks s ys ≡ true → lacks s (xs ++ (other ∷ ys)) ≡ true
lacks-joined s other xs ys differs before back =
    lacks-append s xs (other ∷ ys) before (rw differs back)

-- the place of a separator that a text has not
position-absent : (s : ℕ) (text : List ℕ) → lacks s text ≡ true → position_or_len (λ b. b == s)
    text ≡ length text
position-absent s [] none = refl
position-absent s (b ∷ bs) none = grind (arith, nat_tests, position-absent s bs)

-- a text without the separator is not cut
pub cut_at-lacks : (s : ℕ) (text : List ℕ) → lacks s text ≡ true → cut_at s text ≡ None
unfolding cut_at
cut_at-lacks s text none =
    let outside : nat_lt (position_or_len (λ b. b == s) text) (length text) ≡ false =
    rw (position-absent s text none) (grind (arith, nat_tests)) in
    rw outside refl

-- the first separator of a text stands where a part without one ends, if what follows is empty or
-- begins with one
pub place_after : (s : ℕ) (before back : List ℕ) → lacks s before ≡ true → (back ≡ [])
    ⊎ ((rest : List ℕ) × (back ≡ s ∷ rest)) → position_or_len (λ b. b == s) (before ++ back)
    ≡ length before
place_after s before back none (inl empty) = rw (empty, append-nil before)
    (position-absent s before none)
place_after s before back none (inr begun) = rw begun.1 (position-lacks s before begun.0 none)
