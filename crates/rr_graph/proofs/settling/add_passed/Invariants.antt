use Rattle.std.proofs.Common.{◌≡◌, ◌↔◌, ◌⊎◌, ◌≤◌, ◌-◌, true, Contains, length, take}
use Rattle.std.specs.Option.{is_some}
use Rattle.rr_graph.specs.SettledParts.{IsPassed, values_at}
use Rattle.rr_graph.specs.declared.labels.Edge.{Edge}
use Rattle.rr_graph.proofs.settling.add_passed.Given as goal

abbrev pub invariant-loop-done : goal.invariant-loop-done
invariant-loop-done g l =
    (l.done ≤ length l.edges)
    × ((e : Edge g.row.G-Node.Denot g.row.G-Label.Denot) → Contains (take l.done l.edges) e →
    is_some (values_at g.G.Node.Ord.cmp l.settled.values e.to) ≡ true)
    × ((v : g.row.G-Value.Denot) → Contains l.collected.values.items v
    ↔ (Contains l.initial.collected.values.items v ⊎ IsPassed g.G.Labelled.passed
    (values_at g.G.Node.Ord.cmp l.settled.values) (take l.done l.edges) v))

abbrev pub decreases-loop-done : goal.decreases-loop-done
decreases-loop-done g l = length l.edges - l.done
