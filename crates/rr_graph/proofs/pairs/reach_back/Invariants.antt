use Rattle.std.proofs.Common.{◌-◌, Contains}
use Rattle.std.specs.BTreeMap.{get}
use Rattle.std.specs.BTreeSet.{contains}
use Rattle.std.specs.Ordering.{ordering_then}
use Rattle.rr_graph.specs.EffectParts.{IsCovered, AreChoices}
use Rattle.rr_graph.specs.ReversedParts.{LeadsBack, edges_at}
use Rattle.rr_graph.proofs.Reached.{IsSearching}
use Rattle.rr_graph.proofs.pairs.reach_back.Given as goal

abbrev pub invariant-loop-done : goal.invariant-loop-done
invariant-loop-done g l =
    AreChoices g.G.Labelled.keeps g.G.Labelled.passed g.G.Labelled.kind_of
    (edges_at g.G.Node.Ord.cmp l.pairs.backward.now.map)
    (get (λ (x y : g.row.G-Node.Denot × g.row.G-Kind.Denot).
    ordering_then (g.G.Node.Ord.cmp x.0 y.0) (g.G.Kind.Ord.cmp x.1 y.1)) l.effects.map)
    × IsCovered g.G.Labelled.keeps g.G.Labelled.passed g.G.Labelled.kind_of g.G.Labelled.group_of
    (edges_at g.G.Node.Ord.cmp l.pairs.backward.now.map)
    (contains (λ (x y : (g.row.G-Node.Denot × g.row.G-Kind.Denot) × g.row.G-Group.Denot).
    ordering_then (ordering_then (g.G.Node.Ord.cmp x.0.0 y.0.0) (g.G.Kind.Ord.cmp x.0.1 y.0.1))
    (g.G.Group.Ord.cmp x.1 y.1)) l.effects.marks) (Contains l.found.list.items)
    × IsSearching (λ (x y : g.row.G-Node.Denot × g.row.G-Value.Denot).
    ordering_then (g.G.Node.Ord.cmp x.0 y.0) (g.G.Value.Ord.cmp x.1 y.1))
    (LeadsBack g.G.Labelled.passed (edges_at g.G.Node.Ord.cmp l.pairs.backward.now.map))
    l.fn.starts.items l.limit l.done l.found.list.items l.found.index

abbrev pub decreases-loop-done : goal.decreases-loop-done
decreases-loop-done g l = l.limit - l.done
