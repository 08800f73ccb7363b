use Rattle.std.proofs.Common.{List, ◌≡◌, ◌++◌, length}
use Rattle.std.specs.BTreeSet.{BTreeSet}
use Rattle.std.specs.declared.cmp.Ordering.{Ordering}
use Rattle.std.proofs.Common.{ℕ}
use Rattle.rr_graph.specs.ListingParts.{IsListing, Lists}
use Rattle.rr_graph.proofs.walk.FoundNodes.add_all.Given as goal

-- The nodes taken from the end so far are added.
pub record IsAdding {N : Type 0} (cmp : N → N → Ordering) (limit : ℕ)
    (old nodes rest list : List N) (index : BTreeSet N) : Type 0 where
  pub listing : IsListing cmp limit list index
  pub taken : List N
  pub cut : nodes ≡ rest ++ taken
  pub added : Lists old taken list

abbrev pub invariant-loop-node : goal.invariant-loop-node
invariant-loop-node g l = IsAdding g.N.Ord.cmp l.limit l.initial.self.list.items
    l.initial.nodes.items l.nodes.items l.self.list.items l.self.index

abbrev pub decreases-loop-node : goal.decreases-loop-node
decreases-loop-node g l = length l.nodes.items
