-- Parts of answers, one after the other.
use Rattle.std.proofs.Common.{◌≡◌, ℕ, ◌+◌, ◌<◌, List, [], ◌∷◌, ◌++◌, length, get_or, take, drop}
use Rattle.std.proofs.Common.{refl, sym, ap, subst, ◌∙◌, add-one, arith}
use Rattle.std.specs.Prelude.{Result, Ok, Err}
use Rattle.std.specs.List.{flat_map}
use Rattle.std.proofs.lemmas.List.{append-nil, length-append, take-append-drop}
use Rattle.std.proofs.Math.Seq.{take-suc}
use Rattle.std.proofs.lemmas.Grind.{flat_map-append}
use Rattle.rr_io.specs.Told.{Told}
use Rattle.rr_io.specs.Sending.{Takes, TakesPrefix, Writes}
use Rattle.rr_io.proofs.Transfers.{Takes-then, TakesPrefix-more, TakesPrefix-then}
use Rattle.rr_answer.specs.HasBytes.{missing_has_bytes}
use Rattle.rr_answer.specs.Texts.{missing_line, or_else}

-- the first parts, and those after them
pub parts_split : {X : Type 0} (f : X → List ℕ) (n : ℕ) (xs : List X) → flat_map f xs ≡ flat_map f
    (take n xs) ++ flat_map f (drop n xs)
parts_split f n xs = sym (ap (flat_map f) (take-append-drop n xs)) ∙ flat_map-append f (take n xs)
    (drop n xs)

-- the parts so far and the next one
pub parts_next : {X : Type 0} (f : X → List ℕ) (xs : List X) (i : ℕ) (x : X) → i < length xs →
    x ≡ get_or xs i x
    → flat_map f (take (i + 1) xs) ≡ flat_map f (take i xs) ++ f x
parts_next f xs i x inside is =
    ap (λ n. flat_map f (take n xs)) (add-one i) ∙ ap (flat_map f) (take-suc xs i x inside)
    ∙ flat_map-append f (take i xs) (get_or xs i x ∷ [])
    ∙ ap (λ text. flat_map f (take i xs) ++ text) (append-nil (f (get_or xs i x)) ∙ ap f (sym is))

-- where there is a part, there are bytes
pub some_bytes : {X : Type 0} (f : X → List ℕ) → ((x : X) → 0 < length (f x)) → (xs : List X) →
    0 < length xs → 0 < length (flat_map f xs)
some_bytes f some [] h = omega arith
some_bytes f some (x ∷ xs) h = let one = some x in rw length-append (omega arith)

-- a text with bytes is not replaced
pub not_replaced : (other text : List ℕ) → 0 < length text → or_else other text ≡ text
not_replaced other [] h = let none : ⊥ = omega arith in absurd none
not_replaced other (b ∷ bs) h = refl

-- one writing and then another, which a fault may cut short
pub writes_then : {T E : Type 0} (start middle end : Told) (xs ys : List ℕ) (result : Result T E) →
    Takes start middle xs → Writes middle end ys result
    → Writes start end (xs ++ ys) result
writes_then start middle end xs ys (Ok done) p q = Takes-then xs ys p q
writes_then start middle end xs ys (Err fault) p q = TakesPrefix-then xs ys p q

-- the first parts were not all taken, nor those after them
pub parts_cut : {X : Type 0} (f : X → List ℕ) (n : ℕ) (xs : List X) (old new : Told) (bs : List ℕ)
    → bs ≡ flat_map f (take n xs) → TakesPrefix old new bs → TakesPrefix old new (flat_map f xs)
parts_cut f n xs old new bs is p =
    subst (λ (text : List ℕ). TakesPrefix old new text) (sym (parts_split f n xs))
    (TakesPrefix-more (flat_map f (take n xs)) (flat_map f (drop n xs))
    (subst (λ (text : List ℕ). TakesPrefix old new text) is p))

-- what was found and the names that are missing, where there are some of either
pub members_bytes : {X : Type 0} (f : X → List ℕ) → ((x : X) → 0 < length (f x)) →
    (found : List X) (missing : List (List ℕ)) (nothing : List ℕ) → 0 < length found + length
    missing
    → or_else nothing (flat_map f found ++ flat_map missing_line missing) ≡ flat_map f found ++
    flat_map missing_line missing
members_bytes f some (x ∷ xs) missing nothing h =
    let one : 0 < length (flat_map f (x ∷ xs)) = some_bytes f some (x ∷ xs) (omega arith) in
    not_replaced nothing (flat_map f (x ∷ xs) ++ flat_map missing_line missing)
    (rw length-append (omega arith))
members_bytes f some [] missing nothing h =
    not_replaced nothing (flat_map missing_line missing) (some_bytes missing_line missing_has_bytes
    missing (omega arith))

-- and where there are none
pub members_none : {X : Type 0} (f : X → List ℕ) (found : List X) (missing : List (List ℕ))
    (nothing : List ℕ) → found ≡ [] → missing ≡ []
    → or_else nothing (flat_map f found ++ flat_map missing_line missing) ≡ nothing
members_none f found missing nothing no_found no_missing = λ i.
    or_else nothing (flat_map f (no_found i) ++ flat_map missing_line (no_missing i))
