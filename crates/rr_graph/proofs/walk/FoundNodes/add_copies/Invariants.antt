use Rattle.std.proofs.Common.{Bor, map, take}
use Rattle.rr_graph.specs.ListingParts.{IsListing, Lists}
use Rattle.rr_graph.proofs.walk.FoundNodes.add_copies.Given as goal

abbrev pub invariant-loop-node : goal.invariant-loop-node
invariant-loop-node g l = record {
  listing : IsListing g.N.Ord.cmp l.limit l.self.list.items l.self.index;
  added : Lists l.initial.self.list.items
      (map (λ (n : Bor g.row.N.Denot). n.now) (take l.node-index l.nodes)) l.self.list.items;
}
