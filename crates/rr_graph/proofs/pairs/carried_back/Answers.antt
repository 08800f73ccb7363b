use Rattle.std.proofs.Common.{Bool, List, sym, subst}
use Rattle.std.specs.BTreeSet.{contains}
use Rattle.std.specs.Ordering.{ordering_then}
use Rattle.std.specs.declared.cmp.Ordering.{Ordering}
use Rattle.std.proofs.lemmas.Result.{IfOk-weaker}
use Rattle.rr_graph.specs.EffectParts.{IsMadeBut}
use Rattle.rr_graph.specs.ReversedParts.{edges_at}
use Rattle.rr_graph.specs.declared.labels.Edge.{Edge}
use Rattle.rr_graph.proofs.Enough.{IsMadeBut-all}
use Rattle.rr_graph.proofs.pairs.carried_back.Goals as goal

pub returns-then-edges-le-FEW-clause-carried : goal.returns-then-edges-le-FEW-clause-carried
returns-then-edges-le-FEW-clause-carried g c =
    let M : Type 0 = (g.row.G-Node.Denot × g.row.G-Kind.Denot) × g.row.G-Group.Denot in
    let cmp : M → M → Ordering = λ x y. ordering_then (ordering_then (g.G.Node.Ord.cmp x.0.0 y.0.0)
    (g.G.Kind.Ord.cmp x.0.1 y.0.1)) (g.G.Group.Ord.cmp x.1 y.1) in
    let before : Bool = contains cmp c.args.effects.now.marks (
      (c.args.pair.now.0, g.G.Labelled.kind_of c.args.pair.now.1),
      g.G.Labelled.group_of
          c.args.pair.now.1,
    ) in
    IfOk-weaker c.carried.result _ _
    (λ pairs is. subst (λ (l : List (Edge g.row.G-Node.Denot g.row.G-Label.Denot)).
    IsMadeBut g.G.Labelled.keeps g.G.Labelled.passed l c.args.pair.now.1 before pairs.items)
    c.at-edges.ensures
    (IsMadeBut-all g.G.Labelled.keeps g.G.Labelled.passed c.at-edges.result.now c.args.pair.now.1
    before pairs.items is))
    c.carried.ensures

pub returns-clause-known : goal.returns-clause-known
returns-clause-known g c = (c.in_ok-made.ensures.made
    (edges_at g.G.Node.Ord.cmp c.args.pairs.now.backward.now.map) (sym c.at-edges.ensures)
    c.requires).1

pub returns-clause-carried : goal.returns-clause-carried
returns-clause-carried g c =
    let M : Type 0 = (g.row.G-Node.Denot × g.row.G-Kind.Denot) × g.row.G-Group.Denot in
    let cmp : M → M → Ordering = λ x y. ordering_then (ordering_then (g.G.Node.Ord.cmp x.0.0 y.0.0)
    (g.G.Kind.Ord.cmp x.0.1 y.0.1)) (g.G.Group.Ord.cmp x.1 y.1) in
    let before : Bool = contains cmp c.args.effects.now.marks (
      (c.args.pair.now.0, g.G.Labelled.kind_of c.args.pair.now.1),
      g.G.Labelled.group_of
          c.args.pair.now.1,
    ) in
    subst (λ (l : List (Edge g.row.G-Node.Denot g.row.G-Label.Denot)). IsMadeBut g.G.Labelled.keeps
    g.G.Labelled.passed l c.args.pair.now.1 before c.in_ok-made.made.items) c.at-edges.ensures
    (c.in_ok-made.ensures.made (edges_at g.G.Node.Ord.cmp c.args.pairs.now.backward.now.map)
    (sym c.at-edges.ensures) c.requires).0
