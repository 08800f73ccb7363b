-- Nodes whose values are known, as one more is entered, and what is found at a node whose edges all
-- lead to such ones.
-- A new node's pairs go after all others; a chain from a node splits at its first edge. It is long
-- because many claims are equivalences, with each way and each witness given by hand.
-- `gathering::found_at`, `Settled::enter` and `settling` need it.
use Rattle.std.proofs.Common.{All, ◌≡◌, ℕ, ◌+◌, ◌<◌, ◌≤◌, ◌⊎◌, ◌↔◌, true, false, cond, List, []}
use Rattle.std.proofs.Common.{◌∷◌, ◌++◌, length, get_or, map, take, Contains, Option, None, Some}
use Rattle.std.proofs.Common.{Ordering, refl, sym, ap, ◌∙◌, subst, inl, inr, append_assoc, arith}
use Rattle.std.proofs.Common.{option_and_then}
use Rattle.std.specs.BTreeMap.{is_at}
use Rattle.std.specs.Cmp.{IsTotalOrder}
use Rattle.std.specs.List.{filter_map}
use Rattle.std.specs.List.Sorted.{IsStrictlySortedBy}
use Rattle.std.specs.Option.{is_some}
use Rattle.std.specs.declared.cmp.Ordering.TheVariants.{Less, Equal}
use Rattle.std.proofs.lemmas.Bool.{cases_Bool}
use Rattle.std.proofs.lemmas.Cmp.{eq_by_cmp_equiv, on_total, then_total, tied_itself}
use Rattle.std.proofs.lemmas.List.{append-nil, get_or-take, length-append, length-map}
use Rattle.std.proofs.lemmas.List.{length-take-le}
use Rattle.std.proofs.lemmas.List.Elements.{All-get_or, All-contains, All-contains_itself}
use Rattle.std.proofs.lemmas.List.Elements.{All-from_recursion, All-take, All-weaker}
use Rattle.std.proofs.lemmas.List.Elements.{Contains-append_cases, Contains-append_left}
use Rattle.std.proofs.lemmas.List.Elements.{Contains-append_right, Contains-push_cases}
use Rattle.std.proofs.lemmas.Map.Keys.{sorted_head, sorted_tail}
use Rattle.std.proofs.lemmas.Map.Lookups.{CmpEqualImpliesEq, exact_pairs}
use Rattle.std.proofs.lemmas.Map.Views.{tells_apart}
use Rattle.rr_graph.specs.Answered.{ListsInOrder}
use Rattle.rr_graph.specs.Carried.{IsFound, IsFoundPair, IsLabelledChain, IsReachedFrom}
use Rattle.rr_graph.specs.Carried.{put_through}
use Rattle.rr_graph.specs.Chain.{HasNoRepeats, MoreThan}
use Rattle.rr_graph.specs.SettledParts.{HoldsAllValues, IsAmong, IsFoundAmong, IsKnownValue}
use Rattle.rr_graph.specs.SettledParts.{IsKnownValueOr}
use Rattle.rr_graph.specs.SettledParts.{IsPassed, IsTallied}
use Rattle.rr_graph.specs.declared.labels.Edge.{Edge}
use Rattle.rr_graph.proofs.Backwards.{Contains-take, Contains-take_cases}
use Rattle.rr_graph.proofs.Listings.{HasNoRepeats-push, MoreThan-listed}
use Rattle.rr_graph.proofs.Lists.{Contains-filter_map, Contains-head, Contains-later, Contains-map}
use Rattle.rr_graph.proofs.Lists.{Contains-nil}

-- The edges are those that leave the node.
abbrev pub HasEdges : {N L : Type 0} → (N → N → L → Type 0) → N → List (Edge N L) → Type 0
HasEdges {N} {L} edge node edges = (to : N) (label : L) →
    Contains edges (record { to = to; label = label }) ↔ edge node to label

-- an option that has something
pub some_of : {X : Type 0} (o : Option X) → is_some o ≡ true → (x : X) × (o ≡ Some x)
some_of None is = cc
some_of (Some x) is = (x, refl)

-- what is read from a list has what all have
pub read_from_all : {X : Type 0} (P : X → Type 0) (xs ys : List X) (i : ℕ) (x : X) → ys ≡ xs →
    All P xs → i < length ys → x ≡ get_or ys i x → P x
read_from_all {X} P xs ys i x same all inside is =
    subst P (sym is) (All-get_or P ys i x inside (subst (All P) (sym same) all))

-- the first of a list without repeats have none
HasNoRepeats-take : {X : Type 0} (n : ℕ) (xs : List X) → n ≤ length xs → HasNoRepeats xs →
    HasNoRepeats (take n xs)
HasNoRepeats-take n xs fits once i j d less inside =
    let short : j < n = subst (λ (k : ℕ). j < k) (length-take-le n xs fits) inside in
    rw (get_or-take n xs i d (omega arith), get_or-take n xs j d short)
    (once i j d less (omega arith))

module _ {N V : Type 0} {cmp : V → V → Ordering} (order : IsTotalOrder cmp) (node : N) where
  -- pairs of a new node after others
  once_entered : (pairs : List (N × V)) (values : List V) → HasNoRepeats pairs →
      ((v : V) → Contains pairs (node, v) → Contains values v → ⊥) → IsStrictlySortedBy cmp values
      → HasNoRepeats (pairs ++ map (λ v. (node, v)) values)
  once_entered pairs [] once absent sorted = subst HasNoRepeats (sym (append-nil pairs)) once
  once_entered pairs (v ∷ values) once absent sorted =
      subst HasNoRepeats (append_assoc pairs ((node, v) ∷ []) (map (λ v. (node, v)) values))
      (once_entered (pairs ++ (node, v) ∷ []) values (HasNoRepeats-push pairs (node, v) once
      (λ there. absent v there (Contains-head v values))) later
      (sorted_tail cmp v values sorted)) where
        later : (w : V) → Contains (pairs ++ (node, v) ∷ []) (node, w) → Contains values w → ⊥
        later w there has = elim (Contains-push_cases pairs (node, v) (node, w) there) [
          | inl before ↦ absent w before (Contains-later v values w has)
          | inr same ↦
              let less = All-contains (λ y. cmp v y ≡ Less) values w
              (All-from_recursion (λ y. cmp v y ≡ Less) values
              (sorted_head cmp v values sorted)) has in
              let tie : cmp v w ≡ Equal = subst (λ (x : V). cmp v x ≡ Equal)
              (ap (λ (q : N × V). q.1) same) (tied_itself order v) in
              cc
        ]

-- nothing is held
pub IsTallied-none : {N V : Type 0} (at : N → Option (List V)) (limit count : ℕ) →
    ((node : N) → at node ≡ None) → count ≡ 0 → IsTallied at limit count
IsTallied-none at limit count none zero = record {
  pairs = [];
  long = sym zero;
  few = omega arith;
  once = λ i j d less inside. absurd (omega arith);
  same = λ p. (
    λ has. absurd (Contains-nil p has),
    λ (values, is, has). let wrong : None
        ≡ Some values = sym (none p.0) ∙ is in cc,
  );
}

module _ {N V : Type 0} (at : N → Option (List V)) (node : N) (values : List V)
    (absent : at node ≡ None) where
  module _ {cmp : N → N → Ordering} (order : IsTotalOrder cmp) (exact : CmpEqualImpliesEq cmp)
      (new : N → Option (List V)) (step : (other : N) → new other ≡ cond (is_at (cmp node) other)
      (Some values) (at other)) where
    -- what is held once the node has its values
    pub IsKnownValue-entered : (p : N × V) → IsKnownValue new p ↔ IsKnownValueOr at node
        (Contains values) p
    IsKnownValue-entered p = (on, from) where
      at_node : is_at (cmp node) p.0 ≡ true → new p.0 ≡ Some values
      at_node same = step p.0 ∙ ap (λ b. cond b (Some values) (at p.0)) same

      elsewhere : is_at (cmp node) p.0 ≡ false → new p.0 ≡ at p.0
      elsewhere other = step p.0 ∙ ap (λ b. cond b (Some values) (at p.0)) other

      on : IsKnownValue new p → IsKnownValueOr at node (Contains values) p
      on (held, is, has) = elim (cases_Bool (is_at (cmp node) p.0)) [
        | inl same ↦
            let both : Some held ≡ Some values = sym is ∙ at_node same in
            let alike : held ≡ values = cc in
            inr (
              sym (tells_apart exact node p.0 same),
              subst (λ (l : List V). Contains l p.1)
                  alike has,
            )
        | inr other ↦ inl (held, sym (elsewhere other) ∙ is, has)
      ]

      from : IsKnownValueOr at node (Contains values) p → IsKnownValue new p
      from (inl (held, is, has)) = elim (cases_Bool (is_at (cmp node) p.0)) [
        | inl same ↦
            let wrong : None ≡ Some held =
            sym (subst (λ (n : N). at n ≡ None) (tells_apart exact node p.0 same) absent)
            ∙ is in
            cc
        | inr other ↦ (held, elsewhere other ∙ is, has)
      ]
      from (inr (same, has)) = (
        values,
        at_node (subst (λ (n : N). is_at (cmp node) n ≡ true) (sym same)
            ((eq_by_cmp_equiv order).refl node)),
        has,
      )

  module _ {value_cmp : V → V → Ordering} (value_order : IsTotalOrder value_cmp)
      (sorted : IsStrictlySortedBy value_cmp values) (limit count : ℕ)
      (before : IsTallied at limit count) where
    -- all pairs, the new ones last
    abbrev joined : List (N × V)
    joined = before.pairs ++ map (λ v. (node, v)) values

    joined_long : length joined ≡ count + length values
    joined_long = length-append before.pairs (map (λ v. (node, v)) values)
        ∙ ap (λ (n : ℕ). length before.pairs + n) (length-map values (λ (v : V). (node, v)))
        ∙ ap (λ (n : ℕ). n + length values) before.long

    joined_once : HasNoRepeats joined
    joined_once =
        once_entered value_order node before.pairs values before.once
        (λ v there _.
        let held : IsKnownValue at (node, v) = (before.same (node, v)).0 there in
        let wrong : None ≡ Some held.0 = sym absent ∙ held.1 in
        cc) sorted

    joined_same : (p : N × V) → Contains joined p ↔ IsKnownValueOr at node (Contains values) p
    joined_same p = (
      λ has. elim (Contains-append_cases before.pairs (map (λ v. (node, v)) values) p has) [
        | inl earlier ↦ inl ((before.same p).0 earlier)
        | inr mapped ↦
            let r = (Contains-map (λ (v : V). (node, v)) values p).0 mapped in
            inr (
              sym (ap (λ (q : N × V). q.0) r.2),
              subst (Contains values)
                  (ap (λ (q : N × V). q.1) r.2) r.1,
            )
      ],
      λ held. elim held [
        | inl earlier ↦ Contains-append_left before.pairs (map (λ v. (node, v)) values) p
            ((before.same p).1 earlier)
        | inr both ↦ Contains-append_right before.pairs (map (λ v. (node, v)) values) p
            ((Contains-map (λ (v : V). (node, v)) values p).1 (
              p.1,
              both.1,
              λ j.
                  (sym both.0 j, p.1),
            ))
      ],
    )

    -- one more node, with its values
    pub IsTallied-entered : {cmp : N → N → Ordering} (order : IsTotalOrder cmp)
        (exact : CmpEqualImpliesEq cmp) (new : N → Option (List V)) →
        ((other : N) → new other ≡ cond (is_at (cmp node) other) (Some values) (at other)) →
        count + length values ≤ limit → IsTallied new limit (count + length values)
    IsTallied-entered order exact new step fits = record {
      pairs = joined;
      long = joined_long;
      few = fits;
      once = joined_once;
      same = λ p. (
        λ has. (IsKnownValue-entered order exact new step p).1 ((joined_same p).0 has),
        λ held. (joined_same p).1 ((IsKnownValue-entered order exact new step p).0 held),
      );
    }

    -- a node for whose values there is no room
    pub MoreThan-entered : limit < count + length values →
        MoreThan limit (IsKnownValueOr at node (Contains values))
    MoreThan-entered full =
        let fits : limit + 1 ≤ length joined = rw joined_long (omega arith) in (
          take (limit + 1) joined,
          length-take-le (limit + 1) joined fits,
          HasNoRepeats-take (limit + 1) joined fits joined_once,
          All-take (IsKnownValueOr at node (Contains values)) (limit + 1) joined
              (All-weaker (Contains joined) (IsKnownValueOr at node (Contains values))
              (λ p. (joined_same p).0) joined (All-contains_itself joined)),
        )

module _ {N L V : Type 0} (passed : L → V → Option V) (at : N → Option (List V)) where
  -- no edges pass nothing
  pub IsPassed-none : (starts : List V) (v : V) → Contains starts v
      ↔ (Contains starts v ⊎ IsPassed passed at [] v)
  IsPassed-none starts v =
      (λ has. inl has, λ both. elim both [ inl has ↦ has | inr r ↦ absurd (Contains-nil r.0 r.1) ])

  -- one more edge
  pub IsPassed-more : (starts old new : List V) (edges : List (Edge N L)) (i : ℕ) (e : Edge N L) →
      i < length edges → e ≡ get_or edges i e →
      ((v : V) → Contains old v ↔ (Contains starts v ⊎ IsPassed passed at (take i edges) v)) →
      ((v : V) → Contains new v
      ↔ (Contains old v ⊎ ((w : V) × IsKnownValue at (e.to, w) × (passed e.label w ≡ Some v)))) →
      (v : V) → Contains new v ↔ (Contains starts v ⊎ IsPassed passed at (take (i + 1) edges) v)
  IsPassed-more starts old new edges i e inside is before added v = (
    λ has. elim ((added v).0 has) [
      | inl there ↦ elim ((before v).0 there) [
        | inl first ↦ inl first
        | inr r ↦ inr (r.0, Contains-take edges i e r.0 inside is (inl r.1), r.2)
      ]
      | inr here ↦ inr (e, Contains-take edges i e e inside is (inr refl), here)
    ],
    λ both. elim both [
      | inl first ↦ (added v).1 (inl ((before v).1 (inl first)))
      | inr r ↦ elim (Contains-take_cases edges i e r.0 inside is r.1) [
        | inl earlier ↦ (added v).1 (inl ((before v).1 (inr (r.0, earlier, r.2))))
        | inr same ↦
            (added v).1
            (inr
            (subst (λ (x : Edge N L). (w : V) × IsKnownValue at (x.to, w)
            × (passed x.label w ≡ Some v))
            (sym same) r.2))
      ]
    ],
  )

  -- what an edge to a known node adds
  pub IsPassed-known : (old new held : List V) (e : Edge N L) → at e.to ≡ Some held →
      new ≡ old ++ filter_map (passed e.label) held → (v : V) → Contains new v
      ↔ (Contains old v ⊎ ((w : V) × IsKnownValue at (e.to, w) × (passed e.label w ≡ Some v)))
  IsPassed-known old new held e known is v = (
    λ has. elim (Contains-append_cases old (filter_map (passed e.label) held) v
        (subst (λ (l : List V). Contains l v) is has)) [
          | inl there ↦ inl there
          | inr mapped ↦ let r = (Contains-filter_map (passed e.label) held v).0 mapped in
              inr (r.0, (held, known, r.1), r.2)
        ],
    λ both. rw is (elim both [
      | inl there ↦ Contains-append_left old (filter_map (passed e.label) held) v there
      | inr r ↦
          let both : Some r.1.0 ≡ Some held = sym r.1.1 ∙ known in
          let alike : r.1.0 ≡ held = cc in
          Contains-append_right old (filter_map (passed e.label) held) v
          ((Contains-filter_map (passed e.label) held v).1
          (r.0, subst (λ (l : List V). Contains l r.0) alike r.1.2, r.2))
    ]),
  )

  -- an edge to another node adds nothing
  pub IsPassed-unknown : (old : List V) (e : Edge N L) → at e.to ≡ None → (v : V) → Contains old v
      ↔ (Contains old v ⊎ ((w : V) × IsKnownValue at (e.to, w) × (passed e.label w ≡ Some v)))
  IsPassed-unknown old e unknown v = (
    λ has. inl has,
    λ both. elim both [
      | inl there ↦ there
      | inr r ↦ let wrong : None
          ≡ Some r.1.0 = sym unknown ∙ r.1.1 in cc
    ],
  )

module _ {N L V : Type 0} (edge : N → N → L → Type 0) (own : N → V → Type 0)
    (passed : L → V → Option V) (cmp : V → V → Ordering) (at : N → Option (List V))
    (settled : HoldsAllValues edge own passed cmp at) where
  -- what is found at a node whose edges all lead to known ones
  pub IsFound-settled : (node : N) (edges : List (Edge N L)) → HasEdges edge node edges →
      ((e : Edge N L) → Contains edges e → is_some (at e.to) ≡ true) → (v : V) →
      (own node v ⊎ IsPassed passed at edges v) ↔ IsFound edge own passed node v
  IsFound-settled node edges leave known v = (
    on,
    λ (chain, b, start, leads, owned, through).
        from chain b start leads owned through,
  ) where
    on : own node v ⊎ IsPassed passed at edges v → IsFound edge own passed node v
    on (inl owned) = ([], node, v, refl, owned, refl)
    on (inr (e, among, (w, (held, is, has), through))) =
        let (chain, b, start, leads, owned, put) = ((settled e.to held is).all w).0 has in (
          e ∷ chain,
          b,
          start,
          ((leave e.to e.label).0 among, leads),
          owned,
          ap (option_and_then (passed e.label)) put ∙ through,
        )

    from : (chain : List (Edge N L)) (b : N) (start : V) → IsLabelledChain edge node chain b →
        own b start → put_through passed chain start ≡ Some v → own node v ⊎ IsPassed passed at
        edges v
    from [] b start is owned through =
        inl (subst (own node) (cc through) (subst (λ (n : N). own n start) (sym is) owned))
    from (e ∷ chain) b start is owned through = go (put_through passed chain start) refl where
      among : Contains edges e
      among = (leave e.to e.label).1 is.0

      go : (o : Option V) → put_through passed chain start ≡ o → own node v ⊎ IsPassed passed at
          edges v
      go None none =
          let wrong : option_and_then (passed e.label) None ≡ Some v =
          subst (λ (x : Option V). option_and_then (passed e.label) x ≡ Some v) none through in
          cc
      go (Some w) some =
          let held = some_of (at e.to) (known e among) in
          let last : passed e.label w ≡ Some v =
          subst (λ (x : Option V). option_and_then (passed e.label) x ≡ Some v) some through in
          inr (
            e,
            among,
            (
              w,
              (
                held.0,
                held.1,
                ((settled e.to held.0 held.1).all w).1 (
                  chain,
                  b,
                  start,
                  is.1,
                  owned,
                  some,
                ),
              ),
              last,
            ),
          )

  -- what is listed of a node's own values and of those that are passed to it
  pub listed_at : (node : N) (edges asked : List (Edge N L)) (starts all listed : List V) →
      HasEdges edge node edges → asked ≡ edges →
      ((e : Edge N L) → Contains asked e → is_some (at e.to) ≡ true) →
      ((v : V) → Contains starts v ↔ own node v) →
      ((v : V) → Contains all v ↔ (Contains starts v ⊎ IsPassed passed at asked v)) →
      ((v : V) → Contains listed v ↔ Contains all v) → (v : V) → Contains listed v ↔ IsFound edge
      own passed node v
  listed_at node edges asked starts all listed leave same known has_own has_all as_listed v =
      let known' : (e : Edge N L) → Contains edges e → is_some (at e.to) ≡ true =
      subst (λ (l : List (Edge N L)). (e : Edge N L) → Contains l e → is_some (at e.to) ≡ true)
      same known in
      let has_all' : Contains all v ↔ (Contains starts v ⊎ IsPassed passed at edges v) =
      subst (λ (l : List (Edge N L)). Contains all v
      ↔ (Contains starts v ⊎ IsPassed passed at l v)) same (has_all v) in
      let found : (own node v ⊎ IsPassed passed at edges v) ↔ IsFound edge own passed node v =
      IsFound-settled node edges leave known' v in (
        λ has. elim (has_all'.0 ((as_listed v).0 has)) [
          | inl first ↦ found.0 (inl ((has_own v).0 first))
          | inr passed_on ↦
              found.0 (inr passed_on)
        ],
        λ is.
            (as_listed v).1
            (has_all'.1 (elim (found.1 is) [
              | inl owned ↦ inl ((has_own v).1 owned)
              | inr passed_on ↦ inr passed_on
            ])),
      )

module _ {N L V : Type 0} (edge : N → N → L → Type 0) (own : N → V → Type 0)
    (passed : L → V → Option V) (value_cmp : V → V → Ordering) (at : N → Option (List V)) where
  module _ {cmp : N → N → Ordering} (exact : CmpEqualImpliesEq cmp) (new : N → Option (List V))
      (tail node : N) (is : node ≡ tail) (values : List V) (step : (other : N) → new other
      ≡ cond (is_at (cmp node) other) (Some values) (at other)) where
    -- which of the old and the new list a node has
    entered : (P : N → List V → Type 0) → P tail values →
        ((other : N) (old : List V) → at other ≡ Some old → P other old) →
        (other : N) (held : List V) → new other ≡ Some held → P other held
    entered P last before other held has = elim (cases_Bool (is_at (cmp node) other)) [
      | inl same ↦
          let both : Some values ≡ Some held =
          sym (step other ∙ ap (λ b. cond b (Some values) (at other)) same) ∙ has in
          let alike : values ≡ held = cc in
          subst (λ (n : N). P n held) (sym is ∙ tells_apart exact node other same)
          (subst (P tail) alike last)
      | inr apart ↦
          before other held (sym (step other ∙ ap (λ b. cond b (Some values) (at other)) apart)
          ∙ has)
    ]

    -- the new node is settled too
    pub HoldsAllValues-entered : HoldsAllValues edge own passed value_cmp at →
        ListsInOrder value_cmp (IsFound edge own passed tail) values →
        HoldsAllValues edge own passed value_cmp new
    HoldsAllValues-entered settled found =
        entered (λ n held. ListsInOrder value_cmp (IsFound edge own passed n) held) found settled

    -- no other node is
    pub only_entered : (other : N) → is_some (new other) ≡ true → (is_some (at other) ≡ true)
        ⊎ (tail ≡ other)
    only_entered other known =
        let held = some_of (new other) known in
        entered (λ n _. (is_some (at n) ≡ true) ⊎ (tail ≡ n)) (inr refl)
        (λ n old has. inl (ap is_some has)) other held.0 held.1

  -- what is held and what is found at a node is found at the nodes
  pub IsFoundAmong-held : (nodes : List N) (node : N) → HoldsAllValues edge own passed value_cmp at
      → IsAmong nodes at → Contains nodes node → (p : N × V) →
      IsKnownValueOr at node (IsFound edge own passed node) p → IsFoundAmong edge own passed nodes p
  IsFoundAmong-held nodes node settled among there p (inl (held, is, has)) =
      (among p.0 held is, ((settled p.0 held is).all p.1).0 has)
  IsFoundAmong-held nodes node settled among there p (inr (same, found)) = (
    subst (Contains nodes) (sym same) there,
    subst (λ (n : N). IsFound edge own passed n p.1)
        (sym same) found,
  )

-- nodes of the list alone are known still
pub among_only : {N V : Type 0} (nodes : List N) (node : N) (at new : N → Option (List V)) →
    Contains nodes node → IsAmong nodes at → ((other : N) → is_some (new other) ≡ true →
    (is_some (at other) ≡ true) ⊎ (node ≡ other)) → IsAmong nodes new
among_only nodes node at new there among only other held is = elim (only other (ap is_some is)) [
  | inl before ↦ let old = some_of (at other) before in among other old.0 old.1
  | inr same ↦ subst (Contains nodes) same there
]

-- where all nodes that are reached are known, the pairs held are all that are found
pub few_settled : {N L V : Type 0} {cmp : N → N → Ordering} (order : IsTotalOrder cmp)
    (exact : CmpEqualImpliesEq cmp) {value_cmp : V → V → Ordering}
    (value_order : IsTotalOrder value_cmp) (value_exact : CmpEqualImpliesEq value_cmp)
    (edge : N → N → L → Type 0) (own : N → V → Type 0) (passed : L → V → Option V)
    (at : N → Option (List V)) (start : N) (limit count : ℕ) → HoldsAllValues edge own passed
    value_cmp at → IsTallied at limit count → ((node : N) → IsReachedFrom edge start node →
    is_some (at node) ≡ true) → MoreThan limit (IsFoundPair edge own passed start) → ⊥
few_settled {N} {L} {V} {cmp} order exact {value_cmp} value_order value_exact edge own passed at
    start limit count settled tallied known =
    MoreThan-listed (then_total (on_total (λ (p : N × V). p.0) order)
    (on_total (λ (p : N × V). p.1) value_order)) (exact_pairs cmp value_cmp exact value_exact)
    limit tallied.pairs (IsFoundPair edge own passed start) (rw tallied.long tallied.few)
    (λ p (name, found).
    let held = some_of (at p.0) (known p.0 name) in
    (tallied.same p).1 (held.0, held.1, ((settled p.0 held.0 held.1).all p.1).1 found))
