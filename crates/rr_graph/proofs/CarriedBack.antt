-- Carrying values back edge by edge finds exactly what chains of edges bring.
use Rattle.std.proofs.Common.{◌≡◌, ◌↔◌, List, [], ◌∷◌, ◌++◌, Contains, Option, None, Some, refl}
use Rattle.std.proofs.Common.{sym, ap, ◌∙◌, subst}
use Rattle.std.proofs.Common.{option_and_then}
use Rattle.rr_graph.specs.Carried.{IsFoundPair, IsLabelledChain, IsReachedFrom, Leads, put_through}
use Rattle.rr_graph.specs.Chain.{IsChain, IsReached}
use Rattle.rr_graph.specs.ReversedParts.{CarriesBack, IsBackward, IsCarriedPair, IsOwnPair}
use Rattle.rr_graph.specs.ReversedParts.{LeadsBack}
use Rattle.rr_graph.specs.declared.labels.Edge.{Edge}
use Rattle.rr_graph.proofs.Reached.{IsChain-push, IsChain-within, IsReached-edge}

module _ {N L V : Type 0} (edge : N → N → L → Type 0) (own : N → V → Type 0)
    (passed : L → V → Option V) where
  -- one chain in a graph whose edges are weaker
  IsChain-weaker : {M : Type 0} (P Q : M → M → Type 0) → ((a b : M) → P a b → Q a b) →
      (a : M) (chain : List M) (b : M) → IsChain P a chain b → IsChain Q a chain b
  IsChain-weaker P Q weaker a [] b is = is
  IsChain-weaker P Q weaker a (c ∷ chain) b is =
      (weaker a c is.0, IsChain-weaker P Q weaker c chain b is.1)

  -- what is reached over gathered edges is carried back
  pub IsCarriedPair-reached : (nodes : List N) (backward : N → List (Edge N L))
      (starts : List (N × V)) → IsBackward edge nodes backward →
      ((p : N × V) → Contains starts p ↔ IsOwnPair own nodes p) → (p : N × V) →
      IsReached (LeadsBack passed backward) starts p ↔ IsCarriedPair edge own passed nodes p
  IsCarriedPair-reached nodes backward starts gathered as_starts p = (
    λ (q, chain, start, is). (
      q,
      chain,
      (as_starts q).0 start,
      IsChain-weaker (LeadsBack passed backward)
          (CarriesBack edge own passed nodes) (λ a b step. let r =
          (gathered a.0 (record { to = b.0; label = step.0 })).0 step.1 in
          (step.0, r.0, r.1, step.2)) q chain p is,
    ),
    λ (q, chain, start, is). (
      q,
      chain,
      (as_starts q).1 start,
      IsChain-weaker (CarriesBack edge own passed nodes)
          (LeadsBack passed backward)
          (λ a b step. (
            step.0,
            (gathered a.0 (record { to = b.0; label = step.0 })).1
                (step.1, step.2),
            step.3,
          )) q chain p is,
    ),
  )

  module _ (start : N) (nodes : List N) (reached_from : (node : N) → Contains nodes node
      ↔ IsReachedFrom edge start node) where
    -- what is carried back is found
    IsFoundPair-step : (p q : N × V) → IsFoundPair edge own passed start p → CarriesBack edge own
        passed nodes p q → IsFoundPair edge own passed start q
    IsFoundPair-step p q (_, (chain, b, first_value, leads, owned, is)) step = (
      (reached_from q.0).0 step.1,
      (
        record { to = p.0; label = step.0 } ∷ chain,
        b,
        first_value,
        (step.2, leads),
        owned,
        ap (option_and_then (passed step.0)) is ∙ step.3,
      ),
    )

    -- what is found is carried back
    IsCarriedPair-found : (a : N) (v : V) (chain : List (Edge N L)) (b : N) (first_value : V) →
        IsReachedFrom edge start a → IsLabelledChain edge a chain b → own b first_value →
        put_through passed chain first_value ≡ Some v → IsCarriedPair edge own passed nodes (a, v)
    IsCarriedPair-found a v [] b first_value name is owned through = (
      (a, v),
      [],
      (
        (reached_from a).1 name,
        subst (own a) (cc through)
            (subst (λ (n : N). own n first_value) (sym is) owned),
      ),
      refl,
    )
    IsCarriedPair-found a v (e ∷ chain) b first_value name is owned through =
        go (put_through passed chain first_value) refl (λ w some. IsCarriedPair-found e.to w chain
        b first_value (IsReached-edge (Leads edge) (start ∷ []) a e.to name (e.label, is.0))
        is.1 owned some) where
          go : (o : Option V) → put_through passed chain first_value ≡ o →
              ((w : V) → put_through passed chain first_value ≡ Some w → IsCarriedPair edge own
              passed nodes (e.to, w)) → IsCarriedPair edge own passed nodes (a, v)
          go None none later =
              let wrong : option_and_then (passed e.label) None ≡ Some v =
              subst (λ (x : Option V). option_and_then (passed e.label) x ≡ Some v) none
              through in
              cc
          go (Some w) some later =
              let r : IsCarriedPair edge own passed nodes (e.to, w) = later w some in
              let last : passed e.label w ≡ Some v =
              subst (λ (x : Option V). option_and_then (passed e.label) x ≡ Some v) some
              through in (
                r.0,
                r.1 ++ (a, v) ∷ [],
                r.2,
                IsChain-push (CarriesBack edge own passed nodes) r.0
                    r.1 (e.to, w) (a, v) r.3 (e.label, (reached_from a).1 name, is.0, last),
              )

    -- the pairs that are carried back are exactly those that are found
    pub IsFoundPair-carried : (p : N × V) → IsCarriedPair edge own passed nodes p
        ↔ IsFoundPair edge own passed start p
    IsFoundPair-carried p = (
      λ (q, chain, owned, is). IsChain-within (CarriesBack edge own passed nodes)
          (IsFoundPair edge own passed start) IsFoundPair-step q chain p
          ((reached_from q.0).0 owned.0, ([], q.0, q.1, refl, owned.1, refl)) is,
      λ (name, (chain, b, first_value, leads, owned, through)). IsCarriedPair-found p.0 p.1 chain b
          first_value name leads owned through,
    )
