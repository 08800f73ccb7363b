use Rattle.std.proofs.Common.{◌++◌, ◌∷◌, [], Bor, List, ap, map, sym, ◌∙◌, take}
use Rattle.std.proofs.lemmas.List.{map-append, take_more}
use Rattle.rr_graph.specs.declared.labels.Edge.{Edge}
use Rattle.rr_graph.proofs.gathering.ends.Goals as goal

pub loop-edge-preserved : goal.loop-edge-preserved
loop-edge-preserved g c =
    let N : Type 0 = g.row.N.Denot in
    let E : Type 0 = Edge N g.row.L.Denot in
    let now : Bor N → N = λ n. n.now in
    let to : E → N = λ e. e.to in
    ap (map now) c.in_ok-push.ensures.items
    ∙ map-append now c.loop-edge.nodes.items _
    ∙ ap (λ (l : List N). l ++ c.edge-item.result.to ∷ []) c.loop-edge.invariant
    ∙ sym (ap (map to) (take_more c.args.edges.now c.loop-edge.edge-index c.edge-item.result
    c.loop-edge-test.true ∙ ap (λ (e : E). take c.loop-edge.edge-index c.args.edges.now ++ e ∷ [])
    (sym c.edge-item.is)) ∙ map-append to (take c.loop-edge.edge-index c.args.edges.now)
    (c.edge-item.result ∷ []))
