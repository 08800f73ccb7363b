use Rattle.std.proofs.Common.{ℕ, ◌++◌, ◌∷◌, [], List, Option, sym, ap, ◌∙◌}
use Rattle.std.specs.BTreeMap.{get}
use Rattle.std.specs.Option.{option_map}
use Rattle.rr_graph.specs.NumberedParts.{placed_edge}
use Rattle.rr_graph.specs.declared.labels.Edge.{Edge}
use Rattle.rr_graph.proofs.Lists.{filter_map_more-None, filter_map_more-Some}
use Rattle.rr_graph.proofs.numbered.placed.Goals as goal
use Rattle.rr_graph.proofs.numbered.placed.Goals.{in-Some+in_ok-push, in_default}

pub loop-edge-preserved : goal.loop-edge-preserved
loop-edge-preserved g c =
    let E : Type 0 = Edge ℕ g.row.L.Denot in
    let h : Edge g.row.N.Denot g.row.L.Denot → Option E =
    placed_edge (get g.N.Ord.cmp c.args.places.now) in
    elim c.match-get.branch [
      | in-Some+in_ok-push w ↦
          ap (λ v. v.items) w.placed-is ∙ w.in_ok-push.ensures.items
          ∙ ap (λ (l : List E). l ++ record {
            to = w.in-Some.place.now;
            label =
                c.edge-item.result.label;
          } ∷ []) c.loop-edge.invariant
          ∙ sym (filter_map_more-Some h c.args.edges.now c.loop-edge.edge-index c.edge-item.result
          (record { to = w.in-Some.place.now; label = c.edge-item.result.label })
          c.loop-edge-test.true c.edge-item.is
          (ap
          (option_map (λ (place : ℕ). record { to = place; label = c.edge-item.result.label }))
          (sym w.in-Some.ensures.value)))
      | in_default w ↦
          ap (λ v. v.items) w.placed-is ∙ c.loop-edge.invariant
          ∙ sym (filter_map_more-None h c.args.edges.now c.loop-edge.edge-index c.edge-item.result
          c.loop-edge-test.true c.edge-item.is
          (ap
          (option_map (λ (place : ℕ). record { to = place; label = c.edge-item.result.label }))
          (sym w.in_default.ensures.value)))
    ]
