use Rattle.std.proofs.Common.{List, subst}
use Rattle.std.proofs.lemmas.List.{take_all}
use Rattle.rr_graph.specs.ReversedParts.{IsBackward, edges_at}
use Rattle.rr_graph.proofs.Backwards.{IsBackward-more}
use Rattle.rr_graph.proofs.backward.reversed.Goals as goal

pub loop-place-preserved : goal.loop-place-preserved
loop-place-preserved g c =
    IsBackward-more (g.G.Labelled.edge c.args.graph.now)
    (edges_at g.G.Node.Ord.cmp c.loop-place.backward.map)
    (edges_at g.G.Node.Ord.cmp c.add_all.new.self.map) c.args.nodes.now c.loop-place.place
    c.index-nodes-place.result c.in_ok-edges.edges.items
    c.loop-place-test.true c.index-nodes-place.is c.loop-place.invariant c.in_ok-edges.ensures
    c.in_ok-add_all.ensures

pub returns : goal.returns
returns g c =
    subst (λ (l : List g.row.G-Node.Denot). IsBackward (g.G.Labelled.edge c.args.graph.now) l
    (edges_at g.G.Node.Ord.cmp c.loop-place.backward.map))
    (take_all c.loop-place.place c.args.nodes.now c.loop-place-test.false)
    c.loop-place.invariant
