use Rattle.std.proofs.Common.{ℕ, ◌++◌, ◌∷◌, [], List, sym, ap, ◌∙◌, take}
use Rattle.std.proofs.lemmas.List.{take_more}
use Rattle.rr_graph.specs.declared.labels.Edge.{Edge}
use Rattle.rr_graph.proofs.numbered.copies.Goals as goal

pub loop-edge-preserved : goal.loop-edge-preserved
loop-edge-preserved g c =
    c.in_ok-push.ensures.items ∙ ap (λ (l : List (Edge ℕ g.row.L.Denot)). l ++ c.edge-item.result
    ∷ []) c.loop-edge.invariant
    ∙ ap (λ (e : Edge ℕ g.row.L.Denot). take c.loop-edge.edge-index c.args.edges.now ++ e ∷ [])
    c.edge-item.is
    ∙ sym (take_more c.args.edges.now c.loop-edge.edge-index c.edge-item.result
    c.loop-edge-test.true)
