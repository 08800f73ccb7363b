-- What a walk of a graph keeps: the nodes that it found in the order of finding, and an index of
-- them.
use Rattle.std.specs.Prelude.{◌≡◌, ℕ, ◌≤◌, ◌⊎◌, ◌↔◌, List, ◌++◌}
use Rattle.std.specs.Prelude.{length, Contains, IsTrue, OnOk, Err, Result}
use Rattle.std.specs.declared.cmp.Ordering.{Ordering}
use Rattle.std.specs.BTreeSet.{BTreeSet, contains}
use Rattle.rr_graph.specs.Chain.{HasNoRepeats, MoreThan}
use Rattle.rr_graph.specs.declared.ReachFault.{ReachFault}
use Rattle.rr_graph.specs.declared.ReachFault.TheVariants.{TooMany}
use Rattle.rr_graph.specs.declared.walk.FoundNodes.{FoundNodes}

-- The index has exactly the listed nodes, of which there are at most `limit`, each once.
pub record IsListing {N : Type 0} (cmp : N → N → Ordering) (limit : ℕ) (list : List N)
    (index : BTreeSet N) : Type 0 where
  pub same : (node : N) → IsTrue (contains cmp index node) ↔ Contains list node
  pub once : HasNoRepeats list
  pub few : length list ≤ limit

-- The new list is the old one and then those of `nodes` that it lacked.
pub record Lists {N : Type 0} (old nodes new : List N) : Type 0 where
  pub more : List N
  pub after : new ≡ old ++ more
  pub all : (node : N) → Contains nodes node → Contains new node
  pub only : (node : N) → Contains new node → Contains old node ⊎ Contains nodes node

-- A walk that keeps a listing adds the nodes to it, unless memory runs out, or they and its own are
-- too many.
pub record AddsListed {N X : Type 0} (cmp : N → N → Ordering) (limit : ℕ) (nodes : List N)
    (old new : FoundNodes N) (result : Result X ReachFault) : Type 0 where
  pub listing : OnOk result (IsListing cmp limit new.list.items new.index)
  pub added : OnOk result (Lists old.list.items nodes new.list.items)
  pub many : result ≡ Err TooMany
      → MoreThan limit (λ node. Contains old.list.items node ⊎ Contains nodes node)
