-- What edges lead to, more of them lead to as well.
use Rattle.std.proofs.Common.{ℕ, List, [], ◌∷◌, Option, inl, inr}
use Rattle.std.proofs.lemmas.List.Elements.{All-weaker}
use Rattle.rr_graph.specs.Carried.{IsFound, IsFoundPair, IsLabelledChain, IsReachedFrom, IsTooMany}
use Rattle.rr_graph.specs.Carried.{Leads}
use Rattle.rr_graph.specs.Chain.{IsChain, IsReached, MoreThan}
use Rattle.rr_graph.specs.declared.labels.Edge.{Edge}

module _ {N : Type 0} (e f : N → N → Type 0) (on : (a b : N) → e a b → f a b) where
  chain_on : (a : N) (cs : List N) (b : N) → IsChain e a cs b → IsChain f a cs b
  chain_on a [] b h = h
  chain_on a (c ∷ cs) b h = (on a c h.0, chain_on c cs b h.1)

  pub reached_on : (starts : List N) (b : N) → IsReached e starts b → IsReached f starts b
  reached_on starts b h = (h.0, h.1, h.2, chain_on h.0 h.1 b h.3)

module _ {X : Type 0} (P Q : X → Type 0) (on : (x : X) → P x → Q x) where
  pub more_on : (limit : ℕ) → MoreThan limit P → MoreThan limit Q
  more_on limit h = (h.0, h.1, h.2, All-weaker P Q on h.0 h.3)

module _ {N L : Type 0} (e f : N → N → L → Type 0) (on : (a b : N) (l : L) → e a b l →
    f a b l) where
  labelled_on : (a : N) (es : List (Edge N L)) (b : N) → IsLabelledChain e a es b →
      IsLabelledChain f a es b
  labelled_on a [] b h = h
  labelled_on a (x ∷ xs) b h = (on a x.to x.label h.0, labelled_on x.to xs b h.1)

  pub named_on : (start b : N) → IsReachedFrom e start b → IsReachedFrom f start b
  named_on start b h = reached_on (Leads e) (Leads f) (λ x y l. (l.0, on x y l.0 l.1)) (start ∷ [])
      b h

module _ {N L V : Type 0} (e f : N → N → L → Type 0) (on : (a b : N) (l : L) → e a b l → f a b l)
    (own other : N → V → Type 0) (on_own : (a : N) (v : V) → own a v → other a v)
    (passed : L → V → Option V) where
  pub found_on : (a : N) (v : V) → IsFound e own passed a v → IsFound f other passed a v
  found_on a v h = (h.0, h.1, h.2, labelled_on e f on a h.0 h.1 h.3, on_own h.1 h.2 h.4, h.5)

  pub too_many_on : (limit : ℕ) (start : N) → IsTooMany e own passed limit start →
      IsTooMany f other passed limit start
  too_many_on limit start (inl many) = inl (more_on (IsReachedFrom e start) (IsReachedFrom f start)
      (named_on e f on start) limit many)
  too_many_on limit start (inr many) =
      inr (more_on (IsFoundPair e own passed start) (IsFoundPair f other passed start)
      (λ p h. (named_on e f on start p.0 h.0, found_on p.0 p.1 h.1)) limit many)
