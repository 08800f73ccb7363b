-- What a walk keeps, and what becomes of it as a node is added.
use Rattle.std.proofs.Common.{◌≡◌, ◌≢◌, ℕ, ◌<◌, ◌≤◌, ◌⊎◌, true, false, List, [], ◌∷◌, ◌++◌, length}
use Rattle.std.proofs.Common.{Contains, Ordering, refl, sym, ap, ◌∙◌, subst, inl, inr, cond}
use Rattle.std.proofs.Common.{append_assoc, arith}
use Rattle.std.specs.Bool.{Decides}
use Rattle.std.specs.BTreeSet.{BTreeSet, contains, Updates}
use Rattle.std.specs.Cmp.{IsTotalOrder}
use Rattle.std.specs.Ordering.{eq_by_cmp}
use Rattle.std.proofs.lemmas.Bool.{cases_Bool, true≢false}
use Rattle.std.proofs.lemmas.Cmp.{eq_by_cmp_equiv}
use Rattle.std.proofs.lemmas.List.{append-nil, length_push}
use Rattle.std.proofs.lemmas.List.Elements.{All-contains, All-push, All-weaker, Contains-get_or}
use Rattle.std.proofs.lemmas.List.Elements.{Contains-append_left, Contains-append_right}
use Rattle.std.proofs.lemmas.List.Elements.{Contains-append_cases, Contains-push}
use Rattle.std.proofs.lemmas.List.Elements.{Contains-push_cases, All-contains_itself}
use Rattle.std.proofs.lemmas.List.Quantifiers.{all_pairs_push}
use Rattle.std.proofs.lemmas.Map.Lookups.{CmpEqualImpliesEq}
use Rattle.std.proofs.lemmas.Map.Made.{IsDistinct-from_AllPairs, is_member-Decides}
use Rattle.std.proofs.lemmas.Map.Made.{length-le_from_is_member}
use Rattle.std.proofs.lemmas.Map.Views.{tells_apart}
use Rattle.rr_graph.specs.Chain.{HasNoRepeats, MoreThan}
use Rattle.rr_graph.specs.ListingParts.{IsListing, Lists}

-- a list without repeats has none after a push of what it lacks
pub HasNoRepeats-push : {X : Type 0} (xs : List X) (y : X) → HasNoRepeats xs →
    (Contains xs y → ⊥) → HasNoRepeats (xs ++ y ∷ [])
HasNoRepeats-push {X} xs y once absent =
    all_pairs_push (λ (a b : X). a ≢ b) xs y once
    (λ k d h e. absent (subst (Contains xs) e (Contains-get_or xs k d h)))

-- what is more than `limit` of some things is more than `limit` of all that have a weaker property
pub MoreThan-weaker : {X : Type 0} (limit : ℕ) (P Q : X → Type 0) → ((x : X) → P x → Q x) →
    MoreThan limit P → MoreThan limit Q
MoreThan-weaker limit P Q weaker (xs, long, once, all) =
    (xs, long, once, All-weaker P Q weaker xs all)

-- a list of one thing has only that
pub Contains-single : {X : Type 0} (x y : X) → Contains (x ∷ []) y → x ≡ y
Contains-single x y has = elim (Contains-push_cases [] x y has) [
  | inl (k, inside, _) ↦
      absurd (omega arith)
  | inr same ↦ same
]

-- what a list with one thing before it has
pub Contains-cons_cases : {X : Type 0} (x : X) (xs : List X) (y : X) → Contains (x ∷ xs) y →
    (x ≡ y) ⊎ Contains xs y
Contains-cons_cases x xs y has =
    elim (Contains-append_cases (x ∷ []) xs y has) [
      | inl first ↦ inl (Contains-single x y first)
      | inr later ↦ inr later
    ]

-- what was listed stays so
pub Contains-Lists : {N : Type 0} (old nodes new : List N) (node : N) → Lists old nodes new →
    Contains old node → Contains new node
Contains-Lists old nodes new node added has =
    rw added.after (Contains-append_left old added.more node has)

-- a listed node adds nothing
pub Lists-again : {N : Type 0} (list : List N) (node : N) → Contains list node →
    Lists list (node ∷ []) list
Lists-again {N} list node has = record {
  more = [];
  after = sym (append-nil list);
  all = λ other h. subst (Contains list) (Contains-single node other h) has;
  only = λ other h. inl h;
}

-- a new node is added at the end
pub Lists-push : {N : Type 0} (list : List N) (node : N) → Lists list (node ∷ [])
    (list ++ node ∷ [])
Lists-push list node = record {
  more = node ∷ [];
  after = refl;
  all = λ other h. Contains-append_right list (node ∷ []) other h;
  only = λ other h. Contains-append_cases list (node ∷ []) other h;
}

-- no node adds nothing
pub Lists-none : {N : Type 0} (list : List N) → Lists list [] list
Lists-none list = record {
  more = [];
  after = sym (append-nil list);
  all = λ other (k, inside, _).
      absurd (omega arith);
  only = λ other h. inl h;
}

-- one more node after others
pub Lists-more : {N : Type 0} (old nodes now new : List N) (node : N) → Lists old nodes now →
    Lists now (node ∷ []) new → Lists old (node ∷ nodes) new
Lists-more {N} old nodes now new node before step = record {
  more = before.more ++ step.more;
  after = step.after ∙ ap (λ (l : List N). l ++ step.more) before.after ∙ append_assoc old
      before.more step.more;
  all = λ other h. elim (Contains-cons_cases node nodes other h) [
    | inl same ↦ step.all other (subst (Contains (node ∷ [])) same (Contains-push [] node))
    | inr later ↦ Contains-Lists now (node ∷ []) new other step (before.all other later)
  ];
  only = λ other h. elim (step.only other h) [
    | inl earlier ↦ elim (before.only other earlier) [
      | inl at_first ↦ inl at_first
      | inr among ↦
          inr (Contains-append_right (node ∷ []) nodes other among)
    ]
    | inr last ↦
        inr (Contains-append_left (node ∷ []) nodes other last)
  ];
}

module _ {N : Type 0} {cmp : N → N → Ordering} (order : IsTotalOrder cmp)
    (exact : CmpEqualImpliesEq cmp) where
  -- the order decides which nodes are the same
  pub eq_by_cmp-Decides : (a b : N) → Decides (eq_by_cmp cmp a b) (a ≡ b)
  eq_by_cmp-Decides a b = (
    tells_apart exact a b,
    λ e. subst (λ (x : N). eq_by_cmp cmp a x ≡ true) e
        ((eq_by_cmp_equiv order).refl a),
  )

  -- there are no more things than a list has that contains them all
  pub MoreThan-listed : (limit : ℕ) (list : List N) (P : N → Type 0) → length list ≤ limit →
      ((node : N) → P node → Contains list node) → MoreThan limit P → ⊥
  MoreThan-listed limit list P few inside (xs, long, once, all) =
      let same : (a b : N) → Decides (eq_by_cmp cmp a b) (a ≡ b) = eq_by_cmp-Decides in
      let fits : length xs ≤ length list =
      length-le_from_is_member (eq_by_cmp_equiv order) xs list
      (IsDistinct-from_AllPairs same xs once)
      (λ q h. (is_member-Decides same list q).1
      (inside q (All-contains P xs q all ((is_member-Decides same xs q).0 h)))) in
      omega arith

  -- a node that the index lacks is not listed
  pub IsListing-absent : (limit : ℕ) (list : List N) (index : BTreeSet N) (node : N) →
      IsListing cmp limit list index → contains cmp index node ≡ false → Contains list node → ⊥
  IsListing-absent limit list index node kept absent has =
      true≢false (sym ((kept.same node).1 has) ∙ absent)

  -- a new node is listed and indexed
  pub IsListing-push : (limit : ℕ) (list : List N) (old new : BTreeSet N) (node : N) →
      IsListing cmp limit list old → contains cmp old node ≡ false → length list < limit →
      Updates cmp old new node true → IsListing cmp limit (list ++ node ∷ []) new
  IsListing-push limit list old new node kept absent room update = record {
    same = λ q. (listed q, indexed q);
    once = HasNoRepeats-push list node kept.once (IsListing-absent limit list old node kept absent);
    few = rw length_push (omega arith);
  } where
    listed : (q : N) → contains cmp new q ≡ true → Contains (list ++ node ∷ []) q
    listed q h =
        elim (cases_Bool (eq_by_cmp cmp node q)) [
          | inl same ↦ subst (Contains (list ++ node ∷ [])) ((eq_by_cmp-Decides node q).0 same)
              (Contains-push list node)
          | inr other ↦ Contains-append_left list (node ∷ []) q
              ((kept.same q).0 (sym (update.2 q other) ∙ h))
        ]

    indexed : (q : N) → Contains (list ++ node ∷ []) q → contains cmp new q ≡ true
    indexed q h =
        elim (Contains-push_cases list node q h) [
          | inl listed_before ↦ elim (cases_Bool (eq_by_cmp cmp node q)) [
            | inl same ↦ update.0 q ∙ ap (λ b. cond b true (contains cmp old q)) same
            | inr other ↦ update.2 q other ∙ (kept.same q).1 listed_before
          ]
          | inr same ↦ subst (λ (x : N). contains cmp new x ≡ true) same
              (update.0 node ∙ ap (λ b. cond b true (contains cmp old node))
              ((eq_by_cmp_equiv order).refl node))
        ]

  -- a full list and a node that it lacks
  pub MoreThan-push : (limit : ℕ) (list : List N) (index : BTreeSet N) (node : N) →
      IsListing cmp limit list index → contains cmp index node ≡ false → limit ≤ length list →
      MoreThan limit (λ other. Contains list other ⊎ Contains (node ∷ []) other)
  MoreThan-push limit list index node kept absent full =
      let few : length list ≤ limit = kept.few in
      let P : N → Type 0 = λ other. Contains list other ⊎ Contains (node ∷ []) other in (
        list ++ node ∷ [],
        rw length_push (omega arith),
        HasNoRepeats-push list node kept.once (IsListing-absent limit list index node kept absent),
        All-push P list node (All-weaker (Contains list) P (λ other h. inl h) list
            (All-contains_itself list)) (inr (Contains-push [] node)),
      )
