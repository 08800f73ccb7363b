use Rattle.std.proofs.Common.{◌≡◌, ℕ, ◌<◌, ◌-◌, ◌∷◌, [], get_or, length}
use Rattle.rr_graph.proofs.Reached.{IsSearching}
use Rattle.rr_graph.proofs.reach.Given as goal

abbrev pub invariant-loop-done : goal.invariant-loop-done
invariant-loop-done g l = record {
  walk : IsSearching g.G.Node.Ord.cmp (g.G.Graph.edge l.graph) (l.fn.start ∷ []) l.limit l.done
      l.found.list.items l.found.index;
  count : length l.looks.items ≡ l.done;
  looks : (place : ℕ) (node : g.row.G-Node.Denot) (look : g.row.G-Look.Denot) → place < l.done
      → g.G.Graph.shows l.graph (get_or l.found.list.items place node)
      (get_or l.looks.items place look);
}

abbrev pub decreases-loop-done : goal.decreases-loop-done
decreases-loop-done g l = l.limit - l.done
