-- A text is cut at the first byte that separates its parts: for `place_of` and `parts_between`.
use Rattle.std.proofs.Common.{◌≡◌, ◌<◌, ◌+◌, ◌≤◌, ℕ, Bool, true, false, List, [], ◌∷◌, length, take}
use Rattle.std.proofs.Common.{drop, nat_lt, Option, Some, None, refl, arith, ap, ◌∙◌, sym, cond}
use Rattle.std.proofs.Common.{not, unwrap_or, get_or}
use Rattle.std.specs.List.{position, slice_split, position_or_len}
use Rattle.std.proofs.lemmas.List.Splits.{slice_split_first}
use Rattle.std.proofs.lemmas.List.{drop-drop}
use Rattle.std.proofs.lemmas.List.Sums.{position_or_len_is}
use Rattle.std.proofs.lemmas.Bool.Decides.{nat_tests}
use Rattle.memchr.specs.Find.{IsFirstByte}

-- where no byte separates, the text is the one part
whole_step : (p : ℕ → Bool) (x : ℕ) (xs : List ℕ) (b : Bool) → p x ≡ b
    → (position_or_len p xs ≡ length xs → slice_split p xs ≡ xs ∷ [])
    → position_or_len p (x ∷ xs) ≡ length (x ∷ xs) → slice_split p (x ∷ xs) ≡ (x ∷ xs) ∷ []
whole_step p x xs true e further at = absurd (let z : position_or_len p (x ∷ xs) ≡ 0 = rw e refl in
    omega arith)
whole_step p x xs false e further at =
    let z : position_or_len p (x ∷ xs) ≡ 1 + position_or_len p xs = rw e refl in
    let rest : slice_split p xs ≡ xs ∷ [] = further (omega arith) in
    rw (e, rest) refl

pub whole : (p : ℕ → Bool) (xs : List ℕ) → position_or_len p xs ≡ length xs → slice_split p xs ≡ xs
    ∷ []
whole p [] at = refl
whole p (x ∷ xs) at = whole_step p x xs (p x) refl (whole p xs) at

pub position_within : (p : ℕ → Bool) (xs : List ℕ) → position_or_len p xs ≤ length xs
position_within p [] = omega arith
position_within p (x ∷ xs) =
    elim (p x) as (λ b. cond (not b) (1 + position_or_len p xs) 0 ≤ length (x ∷ xs)) [
      | true ↦ omega arith
      | false ↦ omega (arith, position_within p xs)
    ]

none_step : (p : ℕ → Bool) (xs : List ℕ) (b : Bool) → nat_lt (position_or_len p xs) (length xs) ≡ b
    → cond b (Some (position_or_len p xs)) None ≡ None → slice_split p xs ≡ xs ∷ []
none_step p xs true e at = cc
none_step p xs false e at = whole p xs (grind (arith, e, position_within p xs))

pub cut_none : (p : ℕ → Bool) (xs : List ℕ) → position p xs ≡ None → slice_split p xs ≡ xs ∷ []
cut_none p xs at = none_step p xs (nat_lt (position_or_len p xs) (length xs)) refl at

some_step : (p : ℕ → Bool) (xs : List ℕ) (i : ℕ) (b : Bool) → nat_lt (position_or_len p xs)
    (length xs) ≡ b
    → cond b (Some (position_or_len p xs)) None ≡ Some i
    → slice_split p xs ≡ take i xs ∷ slice_split p (drop (i + 1) xs)
some_step p xs i false e at = cc
some_step p xs i true e at =
    let here : position_or_len p xs ≡ i = cc in
    let inside : position_or_len p xs < length xs = grind (arith, e) in
    rw (← here) (slice_split_first p xs 0 inside)

pub cut_some : (p : ℕ → Bool) (xs : List ℕ) (i : ℕ) → position p xs ≡ Some i
    → slice_split p xs ≡ take i xs ∷ slice_split p (drop 1 (drop i xs))
cut_some p xs i at =
    some_step p xs i (nat_lt (position_or_len p xs) (length xs)) refl at
    ∙ ap (λ ys. take i xs ∷ slice_split p ys) (sym (drop-drop 1 i xs))

place_step : (p : ℕ → Bool) (xs : List ℕ) (b : Bool) → nat_lt (position_or_len p xs) (length xs) ≡ b
    → unwrap_or (cond b (Some (position_or_len p xs)) None) (length xs) ≡ position_or_len p xs
place_step p xs true e = refl
place_step p xs false e = grind (arith, e, position_within p xs)

-- the place of the first byte that passes, or the end
pub place_is : (p : ℕ → Bool) (xs : List ℕ) → unwrap_or (position p xs) (length xs)
    ≡ position_or_len p xs
place_is p xs = place_step p xs (nat_lt (position_or_len p xs) (length xs)) refl

untrue : (t : Bool) → ¬ (t ≡ true) → t ≡ false
untrue true h = absurd (h refl)
untrue false h = refl

-- a byte's first place, by what `memchr` says
pub place_found : (test : ℕ → Bool) (bs : List ℕ) (place : Option ℕ) → IsFirstByte test bs place →
    place ≡ position test bs
place_found test bs None h =
    let at : position_or_len test bs ≡ length bs =
    position_or_len_is test bs (length bs) 0 (omega arith) (λ k lt. untrue (test (get_or bs k 0))
    (h k (omega arith) lt)) (λ lt. absurd (omega arith))
    in grind (arith, nat_tests)
place_found test bs (Some k) h =
    let within : k < length bs = h.0.high in
    let at : position_or_len test bs ≡ k =
    position_or_len_is test bs k 0 (omega arith) (λ j lt. untrue (test (get_or bs j 0))
    (h.0.before j (omega arith) lt)) (λ lt. h.1)
    in grind (arith, nat_tests)

pub ruleset placed = (place_is, position_within)
