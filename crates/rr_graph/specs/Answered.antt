-- What a search with a limit answers, and lists in ascending order: for `reach`, `gather` and
-- `put_in_order`, and for the expansions of `rr_sets`.
use Rattle.std.specs.Prelude.{◌≡◌, ◌↔◌, List, Contains, IfOk, OnOk, Err, Result}
use Rattle.std.specs.List.Sorted.{IsStrictlySortedBy}
use Rattle.std.specs.declared.cmp.Ordering.{Ordering}
use Rattle.std.proofs.lemmas.Map.Lookups.{CmpEqualImpliesEq}
use Rattle.rr_graph.specs.Chain.{AreReached}
use Rattle.rr_graph.specs.Looks.{AreLooks}
use Rattle.rr_graph.specs.declared.ReachFault.{ReachFault}
use Rattle.rr_graph.specs.declared.Visits.{Visits}
use Rattle.rr_graph.specs.declared.ReachFault.TheVariants.{TooMany}

-- A search gives a whole result, which is all that was looked for, or the fault `TooMany` exactly
-- where it goes over its limit, unless memory runs out. The fault `Memory` is that memory ran out:
-- when it does, and what holds then, is not said here (profile).
pub record FindsWithin {X : Type 0} (IsWhole : X → Type 0) (GoesOver : Type 0)
    (result : Result X ReachFault) : Type 0 where
  pub found : IfOk result IsWhole
  pub few : OnOk result (¬ GoesOver)
  pub many : result ≡ Err TooMany → GoesOver

-- The nodes of a walk are those to which chains lead from the starts, each listed once, and its
-- looks are those at these nodes. (profile)
pub record IsWalk {N K : Type 0} (edge : N → N → Type 0) (Shows : N → K → Type 0)
    (starts : List N) (visits : Visits N K) : Type 0 where
  pub nodes : AreReached edge starts visits.nodes.items
  pub looks : AreLooks Shows visits.nodes.items visits.looks.items

-- The list has exactly the things that have the property, each once, in ascending order (profile).
pub record ListsInOrder {X : Type 0} (cmp : X → X → Ordering) (P : X → Type 0) (list : List X)
    : Type 0 where
  pub all : (x : X) → Contains list x ↔ P x
  pub sorted : IsStrictlySortedBy cmp list

-- The new list is in ascending order, each thing once. It has the same things as the old one, if
-- only equal things are equal in the order (profile).
pub record PutsInOrder {X : Type 0} (cmp : X → X → Ordering) (old new : List X) : Type 0 where
  pub sorted : IsStrictlySortedBy cmp new
  pub same : CmpEqualImpliesEq cmp → (x : X) → Contains new x ↔ Contains old x
