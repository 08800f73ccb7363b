-- A labelled graph by the places of its nodes finds at each place what is found at its node.
use Rattle.std.proofs.Common.{suc, ◌≡◌, ℕ, ◌+◌, ◌<◌, ◌⊎◌, ◌↔◌, List, [], ◌∷◌, ◌++◌, length, get_or}
use Rattle.std.proofs.Common.{Contains, Option, refl, sym, ap, ◌∙◌, subst, inl, inr, arith}
use Rattle.std.proofs.Common.{option_and_then}
use Rattle.std.proofs.lemmas.Bool.{cases_lt}
use Rattle.std.proofs.lemmas.List.{get_or_append_left, get_or_default, get_or_push, length_push}
use Rattle.std.proofs.lemmas.List.Elements.{All-contains, All-contains_itself, All-weaker}
use Rattle.std.proofs.lemmas.List.Elements.{Contains-push_cases}
use Rattle.rr_graph.specs.Carried.{IsFound, IsFoundPair, IsLabelledChain, IsReachedFrom, Leads}
use Rattle.rr_graph.specs.Carried.{put_through}
use Rattle.rr_graph.specs.Chain.{HasNoRepeats, MoreThan}
use Rattle.rr_graph.specs.Looks.{AreLooks}
use Rattle.rr_graph.specs.NumberedParts.{AreAllPlaces, IsAt}
use Rattle.rr_graph.specs.declared.labels.Edge.{Edge}
use Rattle.rr_graph.proofs.Listings.{Contains-single, HasNoRepeats-push}
use Rattle.rr_graph.proofs.Lists.{Contains-head, Contains-later, Contains-nil, thing_at}
use Rattle.rr_graph.proofs.Reached.{IsReached-edge, IsReached-start, IsReached-within}

-- the first of a list without repeats is not among the others
once_head : {X : Type 0} (x : X) (xs : List X) → HasNoRepeats (x ∷ xs) → Contains xs x → ⊥
once_head x xs once (k, inside, is) = once 0 (suc k) x (omega arith) (omega arith) (sym is)

-- and the others have none
once_tail : {X : Type 0} (x : X) (xs : List X) → HasNoRepeats (x ∷ xs) → HasNoRepeats xs
once_tail x xs once i j d less inside = once (suc i) (suc j) d (omega arith) (omega arith)

module _ {X Y : Type 0} (R : X → Y → Type 0) (P : X → Type 0) (Q : Y → Type 0)
    (given : (x : X) → P x → (y : Y) × R x y × Q y) (apart : (x z : X) (y : Y) → R x y → R z y →
    x ≡ z) where
  -- things that others stand for, each for another
  related : (xs : List X) → HasNoRepeats xs → ((x : X) → Contains xs x → P x) → (ys : List Y)
      × (length ys ≡ length xs) × HasNoRepeats ys
      × ((y : Y) → Contains ys y → Q y × ((x : X) × Contains xs x × R x y))
  related [] once all = (
    [],
    refl,
    λ i j d less inside. absurd (omega arith),
    λ y has.
        absurd (Contains-nil y has),
  )
  related (x ∷ xs) once all =
      made (related xs (once_tail x xs once) (λ z has. all z (Contains-later x xs z has)))
      (given x (all x (Contains-head x xs))) where
        one_more : length xs + 1 ≡ length (x ∷ xs)
        one_more = omega arith

        made : (ys : List Y) × (length ys ≡ length xs) × HasNoRepeats ys
            × ((y : Y) → Contains ys y → Q y × ((x : X) × Contains xs x × R x y)) → (y : Y) × R x y
            × Q y → (ys : List Y) × (length ys ≡ length (x ∷ xs)) × HasNoRepeats ys
            × ((y : Y) → Contains ys y → Q y × ((z : X) × Contains (x ∷ xs) z × R z y))
        made (ys, long, alone, each) (y, is, has) = (
          ys ++ y ∷ [],
          length_push ys y ∙ ap (λ (n : ℕ). n + 1) long ∙ one_more,
          HasNoRepeats-push ys y alone (λ there. let (_, (z, among, also)) = each y there in
              once_head x xs once (subst (Contains xs) (sym (apart x z y is also)) among)),
          λ w there. elim (Contains-push_cases ys y w there) [
            | inl earlier ↦ let (q, (z, among, also)) = each w earlier in
                (q, (z, Contains-later x xs z among, also))
            | inr same ↦ (subst Q same has, (x, Contains-head x xs, subst (R x) same is))
          ],
        )

  -- where more than a limit have a property, more than it have that of those that stand for them
  pub MoreThan-related : (limit : ℕ) → MoreThan limit P → MoreThan limit Q
  MoreThan-related limit (xs, long, once, all) =
      let (ys, same, alone, each) = related xs once (λ x has. All-contains P xs x all has) in (
        ys,
        same ∙ long,
        alone,
        All-weaker (Contains ys) Q (λ y has. (each y has).0) ys
            (All-contains_itself ys),
      )

module _ {N : Type 0} (nodes : List N) where
  -- one node stands at a place
  pub IsAt-one : (place : ℕ) (a b : N) → IsAt nodes place a → IsAt nodes place b → a ≡ b
  IsAt-one place a b at also = at.1 ∙ get_or_default nodes place a b at.0 ∙ sym also.1

  -- a node of the list stands at a place
  pub IsAt-some : (node : N) → Contains nodes node → (place : ℕ) × IsAt nodes place node
  IsAt-some node (place, inside, is) = (place, (inside, sym is))

  -- what stands at a place is of the list
  pub Contains-at : (place : ℕ) (node : N) → IsAt nodes place node → Contains nodes node
  Contains-at place node at = (place, at.0, sym at.1)

  -- and stands at no other
  pub IsAt-alone : HasNoRepeats nodes → (i j : ℕ) (node : N) → IsAt nodes i node →
      IsAt nodes j node → i ≡ j
  IsAt-alone once i j node at also = elim (order i j) [
    | inl less ↦ absurd (once i j node less also.0 (sym at.1 ∙ also.1))
    | inr rest ↦ elim rest [
      | inl same ↦ same
      | inr more ↦ absurd (once j i node more at.0 (sym also.1 ∙ at.1))
    ]
  ] where
    order : (i j : ℕ) → (i < j) ⊎ ((i ≡ j) ⊎ (j < i))
    order i j = elim (cases_lt i j) [
      | inl less ↦ inl less
      | inr ge ↦ elim (cases_lt j i) [
        | inl more ↦ inr (inr more)
        | inr le ↦ inr (inl (omega arith))
      ]
    ]

module _ {N L V : Type 0} (edge : N → N → L → Type 0) (own : N → V → Type 0)
    (passed : L → V → Option V) (nodes : List N) (once : HasNoRepeats nodes) (numbered : ℕ → ℕ →
    L → Type 0) (same : (from to : ℕ) (label : L) → numbered from to label
    ↔ ((tail head : N) × IsAt nodes from tail × IsAt nodes to head × edge tail head label))
    (start : N) (first : ℕ) (begins : IsAt nodes first start) (reached_from : (node : N) →
    Contains nodes node ↔ IsReachedFrom edge start node) where
  -- what a place has by itself
  abbrev owned : ℕ → V → Type 0
  owned place value = (node : N) × IsAt nodes place node × own node value

  -- all places are reached, and no others
  pub IsReachedFrom-numbered : (place : ℕ) → (place < length nodes) ↔ IsReachedFrom numbered first
      place
  IsReachedFrom-numbered place = (on, from) where
    reached : (node : N) → IsReachedFrom edge start node → IsReachedFrom edge start node
        × ((i : ℕ) → IsAt nodes i node → IsReachedFrom numbered first i)
    reached node is = IsReached-within (Leads edge) (start ∷ []) (λ n. IsReachedFrom edge start n
        × ((i : ℕ) → IsAt nodes i n → IsReachedFrom numbered first i))
        (λ a has. (
          IsReached-start (Leads edge) (start ∷ []) a has,
          λ i at. subst (λ (k : ℕ). IsReachedFrom numbered first k)
              (IsAt-alone nodes once first i start begins
              (subst (IsAt nodes i) (sym (Contains-single start a has)) at))
              (IsReached-start (Leads numbered) (first ∷ []) first (Contains-head first [])),
        ))
        (λ b c was step. (
          IsReached-edge (Leads edge) (start ∷ []) b c was.0 step,
          λ i at. let (k, at_b) = IsAt-some nodes b ((reached_from b).1 was.0) in
              IsReached-edge (Leads numbered) (first ∷ []) k i (was.1 k at_b)
              (step.0, (same k i step.0).1 (b, c, at_b, at, step.1)),
        ))
        node is

    on : place < length nodes → IsReachedFrom numbered first place
    on inside =
        let node : N = get_or nodes place start in
        let at : IsAt nodes place node = (inside, get_or_default nodes place start node inside) in
        (reached node ((reached_from node).0 (Contains-at nodes place node at))).1 place at

    from : IsReachedFrom numbered first place → place < length nodes
    from is = IsReached-within (Leads numbered) (first ∷ []) (λ i. i < length nodes)
        (λ a has. subst (λ (i : ℕ). i < length nodes) (Contains-single first a has) begins.0)
        (λ b c was step. ((same b c step.0).0 step.1).3.0) place is

  -- a chain of places is one of nodes
  up : (place : ℕ) (node : N) → IsAt nodes place node → (chain : List (Edge ℕ L)) (b : ℕ)
      (first_value : V) → IsLabelledChain numbered place chain b → owned b first_value →
      (nodes_ : List (Edge N L)) × (c : N) × IsLabelledChain edge node nodes_ c × own c first_value
      × (put_through passed nodes_ first_value ≡ put_through passed chain first_value)
  up place node at [] b first_value is (m, at_m, has) = (
    [],
    node,
    refl,
    subst (λ (n : N). own n first_value)
        (IsAt-one nodes place m node (subst (λ (i : ℕ). IsAt nodes i m) (sym is) at_m) at) has,
    refl,
  )
  up place node at (e ∷ chain) b first_value is has =
      let (tail, head, at_tail, at_head, step) = (same place e.to e.label).0 is.0 in
      let (rest, c, leads, owns, put) = up e.to head at_head chain b first_value is.1 has in (
        record { to = head; label = e.label } ∷ rest,
        c,
        (
          subst (λ (n : N). edge n head e.label) (IsAt-one nodes place tail node at_tail at) step,
          leads,
        ),
        owns,
        ap (option_and_then (passed e.label)) put,
      )

  -- a chain of nodes is one of places
  down : (place : ℕ) (node : N) → IsAt nodes place node → (chain : List (Edge N L)) (c : N)
      (first_value : V) → IsLabelledChain edge node chain c → own c first_value →
      (places : List (Edge ℕ L)) × (b : ℕ) × IsLabelledChain numbered place places b
      × owned b first_value × (put_through passed places first_value ≡ put_through passed chain
      first_value)
  down place node at [] c first_value is has =
      ([], place, refl, (node, at, subst (λ (n : N). own n first_value) (sym is) has), refl)
  down place node at (e ∷ chain) c first_value is has =
      let (i, at_to) = IsAt-some nodes e.to
      ((reached_from e.to).1 (IsReached-edge (Leads edge) (start ∷ []) node e.to
      ((reached_from node).0 (Contains-at nodes place node at)) (e.label, is.0))) in
      let (rest, b, leads, owns, put) = down i e.to at_to chain c first_value is.1 has in (
        record { to = i; label = e.label } ∷ rest,
        b,
        ((same place i e.label).1 (node, e.to, at, at_to, is.0), leads),
        owns,
        ap (option_and_then (passed e.label)) put,
      )

  -- what is found at a place is found at its node
  pub IsFound-numbered : (place : ℕ) (node : N) → IsAt nodes place node → (value : V) →
      IsFound numbered owned passed place value ↔ IsFound edge own passed node value
  IsFound-numbered place node at value = (
    λ (chain, b, first_value, leads, has, put). let (nodes_, c, leads_, owns, same_) =
        up place node at chain b first_value leads has in (
          nodes_,
          c,
          first_value,
          leads_,
          owns,
          same_ ∙ put,
        ),
    λ (chain, c, first_value, leads, has, put). let (places, b, leads_, owns, same_) =
        down place node at chain c first_value leads has in (
          places,
          b,
          first_value,
          leads_,
          owns,
          same_ ∙ put,
        ),
  )

  -- a pair of a place, and that of its node
  abbrev Stands : ℕ × V → N × V → Type 0
  Stands p q = IsAt nodes p.0 q.0 × (p.1 ≡ q.1)

  -- as many pairs are found by places as by nodes
  pub MoreThan-numbered : (limit : ℕ) → MoreThan limit (IsFoundPair numbered owned passed first)
      ↔ MoreThan limit (IsFoundPair edge own passed start)
  MoreThan-numbered limit = (
    MoreThan-related Stands (IsFoundPair numbered owned passed first)
        (IsFoundPair edge own passed start)
        (λ (i, v) (name, found).
        let inside : i < length nodes = (IsReachedFrom-numbered i).1 name in
        let node : N = get_or nodes i start in
        let at : IsAt nodes i node = (inside, get_or_default nodes i start node inside) in (
          (node, v),
          (at, refl),
          (
            (reached_from node).0 (Contains-at nodes i node at),
            (IsFound-numbered i node at v).0 found,
          ),
        ))
        (λ p r q is also. λ j. (
          IsAt-alone nodes once p.0 r.0 q.0 is.0 also.0 j,
          (is.1 ∙ sym also.1) j,
        ))
        limit,
    MoreThan-related (λ q p. Stands p q) (IsFoundPair edge own passed start)
        (IsFoundPair numbered owned passed first)
        (λ (n, v) (name, found).
        let (i, at) = IsAt-some nodes n ((reached_from n).1 name) in (
          (i, v),
          (at, refl),
          (
            (IsReachedFrom-numbered i).0 at.0,
            (IsFound-numbered i n at v).1
                found,
          ),
        ))
        (λ q r p is also. λ j. (IsAt-one nodes p.0 q.0 r.0 is.0 also.0 j, (sym is.1 ∙ also.1) j))
        limit,
  )

-- no places
pub places_none : (list : List ℕ) → list ≡ [] → AreAllPlaces 0 list
places_none list none = record {
  long = ap length none;
  each = λ place other less. absurd (omega arith);
}

-- one more place
pub places_more : (n : ℕ) (old new : List ℕ) → new ≡ old ++ n ∷ [] → AreAllPlaces n old →
    AreAllPlaces (n + 1) new
places_more n old new is before = record {
  long = ap length is ∙ length_push old n ∙ ap (λ (m : ℕ). m + 1) before.long;
  each = λ place other less. rw is (elim (cases_lt place n) [
    | inl earlier ↦ get_or_append_left old (n ∷ []) other place
        (subst (λ (m : ℕ). place < m) (sym before.long) earlier) ∙ before.each place other earlier
    | inr last ↦ let same : n ≡ place = omega arith in
        get_or_push old n other place (before.long ∙ same) ∙ same
  ]);
}

-- all places are listed
pub Contains-places : (count : ℕ) (places : List ℕ) → AreAllPlaces count places → (place : ℕ) →
    Contains places place ↔ (place < count)
Contains-places count places all place = (
  λ (k, inside, is).
      let less : k < count = subst (λ (n : ℕ). k < n) all.long inside in
      subst (λ (p : ℕ). p < count) (sym (all.each k place less) ∙ is) less,
  λ less. (place, subst (λ (n : ℕ). place < n) (sym all.long) less, all.each place place less),
)

-- what stands at the places of a list is what stands at the places of its nodes
pub looks_at_places : {N S : Type 0} (Given : N → S → Type 0) (nodes : List N) (seen : List S)
    (places : List ℕ) → AreLooks Given nodes seen → AreAllPlaces (length nodes) places →
    AreLooks (λ (place : ℕ). λ (s : S). (n : N) × IsAt nodes place n × Given n s) places seen
looks_at_places {N} {S} Given nodes seen places looks all = record {
  long = looks.long ∙ sym all.long;
  each = λ place other s inside.
      let less : place < length nodes = subst (λ (n : ℕ). place < n) all.long inside in
      let (node, is) = thing_at nodes place less in (
        node,
        subst (λ (k : ℕ). IsAt nodes k node) (sym (all.each place other less)) (less, is),
        subst (λ (n : N). Given n (get_or seen place s)) (sym is) (looks.each place node s less),
      );
}
