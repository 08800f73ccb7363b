-- What a mapped list has.
use Rattle.std.proofs.Common.{◌≡◌, ℕ, ◌+◌, ◌<◌, ◌⊎◌, ◌↔◌, Bool, true, false, cond, length, get_or}
use Rattle.std.proofs.Common.{take, List, [], ◌∷◌, ◌++◌, map, Contains, IsTrue, Option, None, Some}
use Rattle.std.proofs.Common.{refl, sym, ap, ◌∙◌, subst, inl, inr, arith}
use Rattle.std.specs.List.{cons_option, filter, filter_map}
use Rattle.std.proofs.lemmas.List.{append-nil, get_or_default, take_more}
use Rattle.std.proofs.lemmas.List.Elements.{Contains-append_left, Contains-append_right}
use Rattle.std.proofs.lemmas.List.Elements.{Contains-push, filter_map-append}
use Rattle.rr_graph.proofs.Listings.{Contains-cons_cases}

-- an empty list has nothing
pub Contains-nil : {X : Type 0} (x : X) → Contains [] x → ⊥
Contains-nil x (k, inside, _) = omega arith

-- a list has its first element
pub Contains-head : {X : Type 0} (x : X) (xs : List X) → Contains (x ∷ xs) x
Contains-head x xs = Contains-append_left (x ∷ []) xs x (Contains-push [] x)

-- a list has what its tail has
pub Contains-later : {X : Type 0} (x : X) (xs : List X) (y : X) → Contains xs y →
    Contains (x ∷ xs) y
Contains-later x xs y has = Contains-append_right (x ∷ []) xs y has

-- a thing that stands at a place
pub thing_at : {X : Type 0} (xs : List X) (place : ℕ) → place < length xs → (x : X)
    × (x ≡ get_or xs place x)
thing_at [] place inside = absurd (omega arith)
thing_at {X} (x ∷ xs) place inside = (
  get_or (x ∷ xs) place x,
  get_or_default (x ∷ xs) place x (get_or (x ∷ xs) place x) inside,
)

-- an element of a mapped list comes from one of the list
pub Contains-map : {X Y : Type 0} (f : X → Y) (xs : List X) (y : Y) → Contains (map f xs) y
    ↔ ((x : X) × Contains xs x × (f x ≡ y))
Contains-map {X} {Y} f xs y = (back xs, on xs) where
  back : (xs : List X) → Contains (map f xs) y → (x : X) × Contains xs x × (f x ≡ y)
  back [] has = absurd (Contains-nil y has)
  back (x ∷ xs) has = elim (Contains-cons_cases (f x) (map f xs) y has) [
    | inl first ↦ (x, Contains-head x xs, first)
    | inr later ↦ let r = back xs later in (r.0, Contains-later x xs r.0 r.1, r.2)
  ]

  on : (xs : List X) → (x : X) × Contains xs x × (f x ≡ y) → Contains (map f xs) y
  on [] r = absurd (Contains-nil r.0 r.1)
  on (x ∷ xs) r = elim (Contains-cons_cases x xs r.0 r.1) [
    | inl first ↦ subst (Contains (f x ∷ map f xs)) (ap f first ∙ r.2)
        (Contains-head (f x) (map f xs))
    | inr later ↦ Contains-later (f x) (map f xs) y (on xs (r.0, later, r.2))
  ]

-- an element that a partial map gives comes from one of the list
pub Contains-filter_map : {X Y : Type 0} (h : X → Option Y) (xs : List X) (y : Y) →
    Contains (filter_map h xs) y ↔ ((x : X) × Contains xs x × (h x ≡ Some y))
Contains-filter_map {X} {Y} h xs y = (back xs, on xs) where
  first_or_later : (o : Option Y) (rest : List Y) → Contains (cons_option o rest) y → (o ≡ Some y)
      ⊎ Contains rest y
  first_or_later None rest has = inr has
  first_or_later (Some z) rest has = elim (Contains-cons_cases z rest y has)
      [ inl first ↦ inl (ap Some first) | inr later ↦ inr later ]

  kept : (o : Option Y) (rest : List Y) → (o ≡ Some y) ⊎ Contains rest y →
      Contains (cons_option o rest) y
  kept None rest (inl is) = cc
  kept None rest (inr later) = later
  kept (Some z) rest (inl is) = let same : z ≡ y = cc in subst (Contains (z ∷ rest)) same
      (Contains-head z rest)
  kept (Some z) rest (inr later) = Contains-later z rest y later

  back : (xs : List X) → Contains (filter_map h xs) y → (x : X) × Contains xs x × (h x ≡ Some y)
  back [] has = absurd (Contains-nil y has)
  back (x ∷ xs) has = elim (first_or_later (h x) (filter_map h xs) has) [
    | inl first ↦ (x, Contains-head x xs, first)
    | inr later ↦ let r = back xs later in (r.0, Contains-later x xs r.0 r.1, r.2)
  ]

  on : (xs : List X) → (x : X) × Contains xs x × (h x ≡ Some y) → Contains (filter_map h xs) y
  on [] r = absurd (Contains-nil r.0 r.1)
  on (x ∷ xs) r = kept (h x) (filter_map h xs) (elim (Contains-cons_cases x xs r.0 r.1) [
    | inl first ↦ inl (ap h first ∙ r.2)
    | inr later ↦ inr (on xs (r.0, later, r.2))
  ])

-- one more element, which the map keeps
pub filter_map_more-Some : {X Y : Type 0} (h : X → Option Y) (xs : List X) (i : ℕ) (x : X) (y : Y)
    → i < length xs → x ≡ get_or xs i x → h x ≡ Some y → filter_map h (take (i + 1) xs)
    ≡ filter_map h (take i xs) ++ y ∷ []
filter_map_more-Some {X} {Y} h xs i x y inside is kept =
    ap (filter_map h) (take_more xs i x inside ∙ ap (λ (z : X). take i xs ++ z ∷ []) (sym is))
    ∙ filter_map-append h (take i xs) (x ∷ []) ∙ ap (λ (o : Option Y). filter_map h (take i xs)
    ++ cons_option o []) kept

-- one more element, which the map drops
pub filter_map_more-None : {X Y : Type 0} (h : X → Option Y) (xs : List X) (i : ℕ) (x : X) →
    i < length xs → x ≡ get_or xs i x → h x ≡ None → filter_map h (take (i + 1) xs) ≡ filter_map h
    (take i xs)
filter_map_more-None {X} {Y} h xs i x inside is dropped =
    ap (filter_map h) (take_more xs i x inside ∙ ap (λ (z : X). take i xs ++ z ∷ []) (sym is))
    ∙ filter_map-append h (take i xs) (x ∷ []) ∙ ap (λ (o : Option Y). filter_map h (take i xs)
    ++ cons_option o []) dropped ∙ append-nil (filter_map h (take i xs))

-- a filtered list has what the list has and the test passes
pub Contains-filter : {X : Type 0} (p : X → Bool) (xs : List X) (x : X) → Contains (filter p xs) x
    ↔ (Contains xs x × IsTrue (p x))
Contains-filter {X} p xs x = (back xs, λ both. on xs both.0 both.1) where
  begun : (b : Bool) (y : X) (rest : List X) → p y ≡ b → Contains (cond b (y ∷ rest) rest) x →
      ((y ≡ x) × IsTrue (p x)) ⊎ Contains rest x
  begun true y rest is has = elim (Contains-cons_cases y rest x has) [
    | inl first ↦ inl (first, subst (λ (z : X). p z ≡ true) first is)
    | inr later ↦ inr later
  ]
  begun false y rest is has = inr has

  kept : (b : Bool) (y : X) (rest : List X) → p y ≡ b → IsTrue (p x) → (y ≡ x) ⊎ Contains rest x →
      Contains (cond b (y ∷ rest) rest) x
  kept true y rest is passes (inl first) = subst (Contains (y ∷ rest)) first (Contains-head y rest)
  kept true y rest is passes (inr later) = Contains-later y rest x later
  kept false y rest is passes (inl first) = let wrong : p x ≡ false =
      subst (λ (z : X). p z ≡ false) first is in cc
  kept false y rest is passes (inr later) = later

  back : (xs : List X) → Contains (filter p xs) x → Contains xs x × IsTrue (p x)
  back [] has = absurd (Contains-nil x has)
  back (y ∷ ys) has = elim (begun (p y) y (filter p ys) refl has) [
    | inl first ↦ (subst (Contains (y ∷ ys)) first.0 (Contains-head y ys), first.1)
    | inr later ↦ let r = back ys later in (Contains-later y ys x r.0, r.1)
  ]

  on : (xs : List X) → Contains xs x → IsTrue (p x) → Contains (filter p xs) x
  on [] has passes = absurd (Contains-nil x has)
  on (y ∷ ys) has passes = kept (p y) y (filter p ys) refl passes
      (elim (Contains-cons_cases y ys x has) [
        | inl first ↦ inl first
        | inr later ↦
            inr (on ys later passes)
      ])
