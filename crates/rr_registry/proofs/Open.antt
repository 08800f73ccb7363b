-- Spans that are gone over in order, and the numbers at which they end.
use Rattle.std.proofs.Common.{◌≡◌, ◌⊎◌, ℕ, ◌+◌, ◌-◌, ◌<◌, ◌≤◌, suc, Bool, true, false, inl, inr}
use Rattle.std.proofs.Common.{List, [], ◌∷◌, ◌++◌, append_assoc, get_or, length, reverse, refl, sym}
use Rattle.std.proofs.Common.{ap, subst, ◌∙◌, arith}
use Rattle.std.specs.Option.{option_map_or}
use Rattle.std.specs.Prelude.{nat_lt}
use Rattle.std.proofs.lemmas.Option.{get_or_from_slice_get, slice_get_cases}
use Rattle.std.proofs.lemmas.Bool.{both_ways, ltb-true}
use Rattle.std.proofs.lemmas.Bool.Decides.{nat_tests}
use Rattle.std.proofs.lemmas.List.{append-nil, reverse-append}
use Rattle.rr_number.specs.Spans.{Ends, crosses}
use Rattle.rr_auth.specs.Elements.{IsIn}
use Rattle.rr_registry.specs.OpenSpanParts.{NeverRises, IsWithinFirsts, IsJoined, AreKeptSpans}
use Rattle.rr_registry.specs.OpenSpanParts.{NeverFalls}
use Rattle.rr_registry.specs.OpenSpanParts.{IsShortened, ComesAfter, ends_below}

-- before any span
pub none_kept : (gone : Ends → Bool) (first : ℕ) (outer level : List ℕ) → first ≡ 0 → outer ≡ [] →
    level ≡ [] → ((t : Ends) → gone t ≡ false) → AreKeptSpans gone first outer level
    × IsWithinFirsts
    gone first
none_kept gone first outer level begins no_outer no_level none = (
  subst (λ (xs : List ℕ). AreKeptSpans gone first xs level) (sym no_outer)
      (subst (λ (xs : List ℕ). AreKeptSpans gone first [] xs) (sym no_level) (record {
        falling = tt;
        rising = tt;
        within = λ x y i j. absurd i;
        kept = λ t is. absurd (both_ways (gone t) (none t) is);
        own = λ y i. absurd i;
      })),
  λ n below. omega (arith, begins),
)

module _ {A : Type 0} where
  in_head : (x : A) (xs ys : List A) → IsIn x xs → IsIn x (xs ++ ys)
  in_head x [] ys i = absurd i
  in_head x (y ∷ xs) ys (inl e) = inl e
  in_head x (y ∷ xs) ys (inr i) = inr (in_head x xs ys i)

  in_back : (x : A) (xs ys : List A) → IsIn x ys → IsIn x (xs ++ ys)
  in_back x [] ys i = i
  in_back x (y ∷ xs) ys i = inr (in_back x xs ys i)

  in_either : (x : A) (xs ys : List A) → IsIn x (xs ++ ys) → IsIn x xs ⊎ IsIn x ys
  in_either x [] ys i = inr i
  in_either x (y ∷ xs) ys (inl e) = inl (inl e)
  in_either x (y ∷ xs) ys (inr i) = elim (in_either x xs ys i) [
    | inl j ↦ inl (inr j)
    | inr j ↦
        inr j
  ]

  only : (x y : A) → IsIn x (y ∷ []) → x ≡ y
  only x y (inl e) = e
  only x y (inr i) = absurd i

  in_reverse : (x : A) (xs : List A) → IsIn x xs → IsIn x (reverse xs)
  in_reverse x [] i = absurd i
  in_reverse x (y ∷ xs) (inl e) = subst (IsIn x) (sym (reverse-append (y ∷ []) xs))
      (in_back x (reverse xs) (y ∷ []) (inl e))
  in_reverse x (y ∷ xs) (inr i) = subst (IsIn x) (sym (reverse-append (y ∷ []) xs))
      (in_head x (reverse xs) (y ∷ []) (in_reverse x xs i))

  from_reverse : (x : A) (xs : List A) → IsIn x (reverse xs) → IsIn x xs
  from_reverse x [] i = absurd i
  from_reverse x (y ∷ xs) i =
      elim (in_either x (reverse xs) (y ∷ []) (subst (IsIn x) (reverse-append (y ∷ []) xs) i))
      [ inl j ↦ inr (from_reverse x xs j) | inr j ↦ inl (only x y j) ]

falling_more : (xs : List ℕ) (y : ℕ) → NeverRises xs → ((x : ℕ) → IsIn x xs → y ≤ x) →
    NeverRises (xs ++ y ∷ [])
falling_more [] y f least = ((λ z i. absurd i), tt)
falling_more (x ∷ xs) y f least = (
  (λ z i. elim (in_either z xs (y ∷ []) i) [
    | inl j ↦ f.0 z j
    | inr j ↦
        subst (λ w. w ≤ x) (sym (only z y j)) (least x (inl refl))
  ]),
  falling_more xs y f.1 (λ z i. least z (inr i)),
)

falling_prefix : (xs ys : List ℕ) → NeverRises (xs ++ ys) → NeverRises xs
falling_prefix [] ys f = tt
falling_prefix (x ∷ xs) ys f = ((λ y i. f.0 y (in_head y xs ys i)), falling_prefix xs ys f.1)

rising_more : (xs : List ℕ) (y : ℕ) → NeverFalls xs → ((x : ℕ) → IsIn x xs → x ≤ y) →
    NeverFalls (xs ++ y ∷ [])
rising_more [] y f most = ((λ z i. absurd i), tt)
rising_more (x ∷ xs) y f most = (
  (λ z i. elim (in_either z xs (y ∷ []) i) [
    | inl j ↦ f.0 z j
    | inr j ↦
        subst (λ w. x ≤ w) (sym (only z y j)) (most x (inl refl))
  ]),
  rising_more xs y f.1 (λ z i. most z (inr i)),
)

-- numbers that rise, turned round after falling ones that are all above them
falling_on : (outer level : List ℕ) → NeverRises outer → NeverFalls level →
    ((x y : ℕ) → IsIn x outer → IsIn y level → y ≤ x) → NeverRises (outer ++ reverse level)
falling_on outer [] falling rising within = subst NeverRises (sym (append-nil outer)) falling
falling_on outer (y ∷ level) falling rising within =
    subst NeverRises (append_assoc outer (reverse level) (y ∷ []) ∙ ap (λ ys. outer ++ ys)
    (sym (reverse-append (y ∷ []) level)))
    (falling_more (outer ++ reverse level) y (falling_on outer level falling rising.1
    (λ x z i j. within x z i (inr j)))
    (λ x i. elim (in_either x outer (reverse level) i) [
      | inl j ↦ within x y j (inl refl)
      | inr j ↦
          rising.0 x (from_reverse x level j)
    ]))

-- the last of falling numbers is below none of them
pub falling_last : (xs : List ℕ) (i d : ℕ) → NeverRises xs → i + 1 ≡ length xs → (x : ℕ) →
    IsIn x xs → get_or xs i d ≤ x
falling_last [] i d f e x at = absurd at
falling_last (y ∷ []) i d f e x (inl is) = let last : i ≡ 0 = omega arith in
    rw (last, is) (omega arith)
falling_last (y ∷ []) i d f e x (inr at) = absurd at
falling_last (y ∷ z ∷ zs) i d f e x at =
    let rest = falling_last (z ∷ zs) (i - 1) d f.1 (omega arith) in
    let later : i ≡ suc (i - 1) = omega arith in
    subst (λ n. get_or (y ∷ z ∷ zs) n d ≤ x) (sym later)
    (elim at as (λ _. get_or (z ∷ zs) (i - 1) d ≤ x) [
      | inl is ↦ rw is (let up : get_or (z ∷ zs) (i - 1) d ≤ z = rest z (inl refl) in let down :
          z ≤ y = f.0 z (inl refl) in omega arith)
      | inr j ↦ rest x j
    ])

-- spans that go on to a first number: the level's are put after the outer ones, and those that end
-- below it are dropped
pub moved_on : (gone : Ends → Bool) (old first : ℕ) (outer level left : List ℕ) → old ≤ first →
    AreKeptSpans gone old outer level → IsShortened first (outer ++ reverse level) left →
    AreKeptSpans gone first left []
moved_on gone old first outer level left up held short = record {
  falling = falling_prefix left short.taken
      (subst NeverRises short.cut (falling_on outer level held.falling held.rising held.within));
  rising = tt;
  within = λ x y i j. absurd j;
  kept = λ t is. elim (held.kept t is) as
      (λ _. (t.last < first) ⊎ (((t.first ≡ first) × IsIn t.last []) ⊎ IsIn t.last left)) [
        | inl closed ↦ inl (omega (arith, up, closed))
        | inr (inl on) ↦
            still t (in_back t.last outer (reverse level) (in_reverse t.last level on.1))
        | inr (inr out) ↦ still t (in_head t.last outer (reverse level) out)
      ];
  own = λ y j. absurd j;
}
  where
    still : (t : Ends) → IsIn t.last (outer ++ reverse level) → (t.last < first)
        ⊎ (((t.first ≡ first) × IsIn t.last []) ⊎ IsIn t.last left)
    still t i = elim (in_either t.last left short.taken (subst (IsIn t.last) short.cut i))
        [ inl j ↦ inr (inr j) | inr j ↦ inl (short.below t.last j) ]

apart_free : (t s : Ends) → t.last < s.first → crosses t s ≡ false
apart_free t s below = grind (arith, nat_tests, below)

covering_free : (t s : Ends) → t.first ≤ s.first → s.last ≤ t.last → crosses t s ≡ false
covering_free t s low high = grind (arith, nat_tests, low, high)

covered_free : (t s : Ends) → t.first ≡ s.first → t.last ≤ s.last → crosses t s ≡ false
covered_free t s same low = grind (arith, nat_tests, same, low)

-- what goes for a span that crosses none before it
pub record IsPassing (gone : Ends → Bool) (s : Ends) (more : Ends → Bool) (first : ℕ)
    (outer level : List ℕ) : Type 0 where
  pub free : (t : Ends) → gone t ≡ true → crosses t s ≡ false
  pub kept : AreKeptSpans more first outer level
  pub within : IsWithinFirsts more first

-- a span after spans of its first number that the outer ones all reach
pub passed : (gone more : Ends → Bool) (s : Ends) (first : ℕ) (outer level : List ℕ) →
    s.first ≡ first → AreKeptSpans gone first outer level → ComesAfter gone s → IsJoined gone s more
    → ((x : ℕ) → IsIn x outer → s.last ≤ x) → IsPassing gone s more first outer
    (level ++ s.last ∷ [])
passed gone more s first outer level here held rises joined reached = record {
  free = λ t is. elim (held.kept t is) as (λ _. crosses t s ≡ false) [
    | inl closed ↦ apart_free t s (omega (arith, here, closed))
    | inr (inl on) ↦ let same : t.first ≡ s.first = on.0 ∙ sym here in covered_free t s same
        ((rises t is).1 same)
    | inr (inr out) ↦ covering_free t s (rises t is).0 (reached t.last out)
  ];
  kept = record {
    falling = held.falling;
    rising = rising_more level s.last held.rising (λ x i. let t = held.own x i in
        rw (sym t.1.1.1) ((rises t.0 t.1.0).1 (t.1.1.0 ∙ sym here)));
    within = λ x y i j. elim (in_either y level (s.last ∷ []) j) [
      | inl k ↦ held.within x y i k
      | inr k ↦ rw (only y s.last k) (reached x i)
    ];
    kept = λ t is. elim (joined.each t is) as
        (λ _. (t.last < first) ⊎ (((t.first ≡ first) × IsIn t.last (level ++ s.last ∷ []))
        ⊎ IsIn t.last outer)) [
          | inl own ↦
              inr (inl (
                ap (λ (u : Ends). u.first) own ∙ here,
                in_back t.last level (s.last ∷ [])
                    (inl (ap (λ (u : Ends). u.last) own)),
              ))
          | inr old ↦ elim (held.kept t old) [
            | inl closed ↦ inl closed
            | inr (inl on) ↦ inr (inl (on.0, in_head t.last level (s.last ∷ []) on.1))
            | inr (inr out) ↦ inr (inr out)
          ]
        ];
    own = λ y j. elim (in_either y level (s.last ∷ []) j) [
      | inl k ↦ let t = held.own y k in (t.0, (joined.old t.0 t.1.0, t.1.1))
      | inr k ↦ (s, (joined.own, (here, sym (only y s.last k))))
    ];
  };
  within = λ n below. rw (sym here) (below s joined.own);
}

-- a list from whose end a number below one was taken
pub shortened_more : (first : ℕ) (whole left now : List ℕ) (last : ℕ) → left ≡ now ++ last ∷ [] →
    last < first → IsShortened first whole left → IsShortened first whole now
shortened_more first whole left now last is below h = record {
  taken = last ∷ h.taken;
  cut = h.cut ∙ ap (λ xs. xs ++ h.taken) is ∙ append_assoc now (last ∷ []) h.taken;
  below = λ x i. elim i as (λ _. x < first) [ inl e ↦ rw e below | inr j ↦ h.below x j ];
}

-- what ends below a number is not empty, and its last is below that
pub ending : (lasts : List ℕ) (first : ℕ) → ends_below lasts first ≡ true → (0 < length lasts)
    × ((d : ℕ) → get_or lasts (length lasts - 1) d < first)
ending lasts first e =
    elim (slice_get_cases lasts (length lasts - 1)).1 as (λ _. (0 < length lasts)
    × ((d : ℕ) → get_or lasts (length lasts - 1) d < first)) [
      | inl (x, inside, at, is) ↦ (
        omega (arith, inside),
        λ d. rw (get_or_from_slice_get lasts (length lasts - 1) x d at)
            (ltb-true x first (sym (ap (λ o. option_map_or (λ last. nat_lt last first) o false) at)
            ∙ e)),
      )
      | inr (past, none) ↦ let wrong : false ≡ true =
          sym (ap (λ o. option_map_or (λ last. nat_lt last first) o false) none) ∙ e in cc
    ]
