-- What chains of edges reach.
use Rattle.std.proofs.Common.{◌≡◌, ℕ, ◌+◌, ◌<◌, ◌≤◌, ◌↔◌, List, [], ◌∷◌, ◌++◌, length, get_or}
use Rattle.std.proofs.Common.{Contains, Ordering, refl, sym, ap, ◌∙◌, subst, inl, inr, arith}
use Rattle.std.specs.BTreeSet.{BTreeSet}
use Rattle.std.proofs.lemmas.Bool.{cases_lt}
use Rattle.std.proofs.lemmas.List.{get_or_append_left, get_or_default, length-append}
use Rattle.std.proofs.lemmas.List.Elements.{Contains-get_or}
use Rattle.rr_graph.specs.Chain.{IsChain, IsReached}
use Rattle.rr_graph.specs.ListingParts.{IsListing, Lists}
use Rattle.rr_graph.proofs.Listings.{Contains-Lists}

module _ {N : Type 0} (edge : N → N → Type 0) where
  -- a chain goes on by one edge
  pub IsChain-push : (a : N) (chain : List N) (b c : N) → IsChain edge a chain b → edge b c →
      IsChain edge a (chain ++ c ∷ []) c
  IsChain-push a [] b c is step = (subst (λ (x : N). edge x c) (sym is) step, refl)
  IsChain-push a (next ∷ chain) b c is step = (is.0, IsChain-push next chain b c is.1 step)

  -- a start is reached
  pub IsReached-start : (starts : List N) (a : N) → Contains starts a → IsReached edge starts a
  IsReached-start starts a is = (a, [], is, refl)

  -- what an edge leads to from a reached node is reached
  pub IsReached-edge : (starts : List N) (b c : N) → IsReached edge starts b → edge b c →
      IsReached edge starts c
  IsReached-edge starts b c (a, chain, is, leads) step =
      (a, chain ++ c ∷ [], is, IsChain-push a chain b c leads step)

  -- a chain does not leave what each edge stays in
  pub IsChain-within : (P : N → Type 0) → ((b c : N) → P b → edge b c → P c) →
      (a : N) (chain : List N) (b : N) → P a → IsChain edge a chain b → P b
  IsChain-within P closed a [] b here is = subst P is here
  IsChain-within P closed a (next ∷ chain) b here is = IsChain-within P closed next chain b
      (closed a next here is.0) is.1

  -- what has the starts and is closed under edges has all that is reached
  pub IsReached-within : (starts : List N) (P : N → Type 0) → ((a : N) → Contains starts a → P a) →
      ((b c : N) → P b → edge b c → P c) → (b : N) → IsReached edge starts b → P b
  IsReached-within starts P has_starts closed b (a, chain, is, leads) = IsChain-within P closed a
      chain b (has_starts a is) leads

-- A search over a graph: all that it found is reached, and it found the starts and all successors
-- of those looked at.
pub record IsSearching {N : Type 0} (cmp : N → N → Ordering) (edge : N → N → Type 0)
    (starts : List N) (limit done : ℕ) (list : List N) (index : BTreeSet N) : Type 0 where
  pub listing : IsListing cmp limit list index
  pub inside : done ≤ length list
  pub has_starts : (a : N) → Contains starts a → Contains list a
  pub sound : (b : N) → Contains list b → IsReached edge starts b
  pub closed : (k : ℕ) (d : N) → k < done → (c : N) → edge (get_or list k d) c → Contains list c

module _ {N : Type 0} (cmp : N → N → Ordering) (edge : N → N → Type 0) (starts : List N)
    (limit : ℕ) where
  -- the starts alone were found
  pub IsSearching-none : (list : List N) (index : BTreeSet N) → IsListing cmp limit list index →
      Lists [] starts list → IsSearching cmp edge starts limit 0 list index
  IsSearching-none list index listing added = record {
    listing = listing;
    inside = omega arith;
    has_starts = added.all;
    sound = λ b has. elim (added.only b has) [
      | inl (k, before, _) ↦ absurd (omega arith)
      | inr start ↦ IsReached-start edge starts b start
    ];
    closed = λ k d before. absurd (omega arith);
  }

  -- one more node was looked at
  pub IsSearching-more : (done : ℕ) (list new : List N) (old index : BTreeSet N) (nodes : List N)
      (node : N) → IsSearching cmp edge starts limit done list old → done < length list →
      node ≡ get_or list done node → ((c : N) → Contains nodes c → edge node c) →
      ((c : N) → edge node c → Contains new c) → IsListing cmp limit new index →
      Lists list nodes new → IsSearching cmp edge starts limit (done + 1) new index
  IsSearching-more done list new old index nodes node search_ before is only whole listing added =
      record {
        listing = listing;
        inside = rw (added.after, length-append) (omega arith);
        has_starts = λ a start. Contains-Lists list nodes new a added (search_.has_starts a start);
        sound = λ b has. elim (added.only b has) [
          | inl there ↦ search_.sound b there
          | inr next ↦ IsReached-edge edge starts node b (search_.sound node there) (only b next)
        ];
        closed = λ k d h c step. elim (cases_lt k done) [
          | inl earlier ↦ Contains-Lists list nodes new c added
              (search_.closed k d earlier c (subst (λ (x : N). edge x c) (kept k d (omega arith))
              step))
          | inr last ↦ whole c (subst (λ (x : N). edge x c) (at k d (omega arith)) step)
        ];
      } where
        there : Contains list node
        there = subst (Contains list) (sym is) (Contains-get_or list done node before)

        kept : (k : ℕ) (d : N) → k < length list → get_or new k d ≡ get_or list k d
        kept k d h = rw added.after (get_or_append_left list added.more d k h)

        at : (k : ℕ) (d : N) → k ≡ done → get_or new k d ≡ node
        at k d last = kept k d (omega arith) ∙ ap (λ (i : ℕ). get_or list i d) last ∙ get_or_default
            list done d node before ∙ sym is

  -- a finished search found exactly what is reached
  pub IsSearching-all : (done : ℕ) (list : List N) (index : BTreeSet N) → IsSearching cmp edge
      starts limit done list index → length list ≤ done → (b : N) → Contains list b
      ↔ IsReached edge starts b
  IsSearching-all done list index search_ whole b = (
    search_.sound b,
    IsReached-within edge starts (Contains list) search_.has_starts closed
        b,
  ) where
    closed : (x c : N) → Contains list x → edge x c → Contains list c
    closed x c (k, inside, is) step = search_.closed k x (omega arith) c
        (subst (λ (y : N). edge y c) (sym is) step)
