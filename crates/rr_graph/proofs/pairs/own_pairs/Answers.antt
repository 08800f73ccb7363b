use Rattle.std.proofs.Common.{◌↔◌, ◌++◌, List, Contains, ap, map, ◌∙◌, subst}
use Rattle.std.proofs.lemmas.List.{take_all}
use Rattle.rr_graph.specs.ReversedParts.{IsOwnPair}
use Rattle.rr_graph.proofs.OwnPairs.{IsOwnPair-more}
use Rattle.rr_graph.proofs.pairs.own_pairs.Goals as goal

pub loop-place-preserved : goal.loop-place-preserved
loop-place-preserved g c =
    IsOwnPair-more (g.G.Labelled.own c.args.graph.now) c.args.nodes.now c.loop-place.place
    c.index-nodes-place.result c.in_ok-values.values.items c.loop-place.pairs.items
    c.add_own.new.pairs.items
    c.loop-place-test.true c.index-nodes-place.is c.loop-place.invariant c.in_ok-values.ensures
    (c.in_ok-add_own.ensures ∙ ap (λ (l : List g.row.G-Value.Denot). c.loop-place.pairs.items ++ map
    (λ (v : g.row.G-Value.Denot). (c.index-nodes-place.result, v)) l) c.deref.ensures.value)

pub returns : goal.returns
returns g c =
    subst (λ (l : List g.row.G-Node.Denot). (p : g.row.G-Node.Denot × g.row.G-Value.Denot) →
    Contains c.loop-place.pairs.items p ↔ IsOwnPair (g.G.Labelled.own c.args.graph.now) l p)
    (take_all c.loop-place.place c.args.nodes.now c.loop-place-test.false)
    c.loop-place.invariant
