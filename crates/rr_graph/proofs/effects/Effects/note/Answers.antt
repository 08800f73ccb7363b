use Rattle.std.proofs.Common.{◌≡◌, List, Option, Some, cond, sym, subst}
use Rattle.std.specs.BTreeMap.{get, is_at}
use Rattle.std.specs.Option.{IfSome}
use Rattle.std.specs.Ordering.{ordering_then}
use Rattle.std.specs.declared.cmp.Ordering.{Ordering}
use Rattle.std.proofs.lemmas.Map.Lookups.{exact_pairs}
use Rattle.rr_graph.specs.EffectParts.{IsChoice}
use Rattle.rr_graph.specs.declared.effects.Choice.{Choice}
use Rattle.rr_graph.specs.declared.labels.Edge.{Edge}
use Rattle.rr_graph.proofs.Enough.{AreChoices-entered}
use Rattle.rr_graph.proofs.effects.Effects.note.Goals as goal

pub returns-in_ok-insert-clause-known : goal.returns-in_ok-insert-clause-known
returns-in_ok-insert-clause-known g c = λ all same known.
    let Key : Type 0 = g.row.G-Node.Denot × g.row.G-Kind.Denot in
    let cmp : Key → Key → Ordering = λ x y. ordering_then (g.G.Node.Ord.cmp x.0 y.0)
    (g.G.Kind.Ord.cmp x.1 y.1) in
    let chosen : IsChoice g.G.Labelled.keeps g.G.Labelled.passed c.args.head.now.edges.now
    c.args.value
    c.in-Some.choice =
    subst (λ (o : Option (Choice g.row.G-Node.Denot g.row.G-Label.Denot)).
    IfSome o (λ choice. IsChoice g.G.Labelled.keeps g.G.Labelled.passed c.args.head.now.edges.now
    c.args.value choice)) c.in-Some.is c.in_ok-choice.ensures in
    AreChoices-entered g.G.Labelled.keeps g.G.Labelled.passed g.G.Labelled.kind_of
    g.met.G.Labelled.alike g.met.G.Labelled.dropped
    (exact_pairs g.G.Node.Ord.cmp g.G.Kind.Ord.cmp g.met.G.Labelled.exact_nodes
    g.met.G.Labelled.exact_kinds) all
    (get cmp c.args.self.now.map) (get cmp c.insert.new.self) c.args.head.now.node.now c.args.value
    c.in-Some.choice known
    (subst (λ (l : List (Edge g.row.G-Node.Denot g.row.G-Label.Denot)). IsChoice g.G.Labelled.keeps
    g.G.Labelled.passed l c.args.value c.in-Some.choice) (sym same) chosen)
    (subst (λ (new : Key). (key : Key) → get cmp c.insert.new.self key ≡ cond (is_at (cmp new) key)
    (Some c.in-Some.choice) (get cmp c.args.self.now.map key))
    c.in_ok-key.ensures c.in_ok-insert.ensures.updates.0)
