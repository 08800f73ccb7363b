use Rattle.std.proofs.Common.{◌↔◌, ◌⊎◌, Contains, take}
use Rattle.std.specs.BTreeMap.{get}
use Rattle.std.specs.BTreeSet.{contains}
use Rattle.std.specs.Ordering.{ordering_then}
use Rattle.rr_graph.specs.EffectParts.{IsCovered, AreChoices}
use Rattle.rr_graph.specs.SettledParts.{IsMade}
use Rattle.rr_graph.proofs.settling.pass_run.Given as goal

abbrev pub invariant-loop-value : goal.invariant-loop-value
invariant-loop-value g l =
    AreChoices g.G.Labelled.keeps g.G.Labelled.passed g.G.Labelled.kind_of
    (λ (_ : g.row.G-Node.Denot). l.head.edges.now)
    (get (λ (x y : g.row.G-Node.Denot × g.row.G-Kind.Denot).
    ordering_then (g.G.Node.Ord.cmp x.0 y.0) (g.G.Kind.Ord.cmp x.1 y.1)) l.effects.map)
    × IsCovered g.G.Labelled.keeps g.G.Labelled.passed g.G.Labelled.kind_of g.G.Labelled.group_of
    (λ (_ : g.row.G-Node.Denot). l.head.edges.now)
    (contains (λ (x y : (g.row.G-Node.Denot × g.row.G-Kind.Denot) × g.row.G-Group.Denot).
    ordering_then (ordering_then (g.G.Node.Ord.cmp x.0.0 y.0.0) (g.G.Kind.Ord.cmp x.0.1 y.0.1))
    (g.G.Group.Ord.cmp x.1 y.1)) l.effects.marks)
    (λ (q : g.row.G-Node.Denot × g.row.G-Value.Denot). Contains l.collected.values.items q.1)
    × ((v : g.row.G-Value.Denot) → Contains l.collected.values.items v
    ↔ (Contains l.initial.collected.values.items v ⊎ IsMade g.G.Labelled.passed l.head.node.now
    l.head.edges.now
    (take l.value-index l.starts) v))
