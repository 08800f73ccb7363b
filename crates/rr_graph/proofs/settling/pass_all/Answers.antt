use Rattle.std.proofs.Common.{◌∙◌, ◌++◌, [], ◌∷◌, List, Option, ap, append_assoc, sym, take}
use Rattle.std.specs.List.{filter_map}
use Rattle.rr_graph.proofs.Lists.{filter_map_more-None, filter_map_more-Some}
use Rattle.rr_graph.proofs.settling.pass_all.Goals as goal
use Rattle.rr_graph.proofs.settling.pass_all.Goals.{in-Some+in_ok-push, in_default}

pub loop-value-preserved : goal.loop-value-preserved
loop-value-preserved g c =
    let V : Type 0 = g.row.G-Value.Denot in
    let h : V → Option V = g.G.Labelled.passed c.args.label in
    let old : List V = c.args.values.now.items in
    elim c.match-pass.branch [
      | in-Some+in_ok-push w ↦
          ap (λ v. v.items) w.values-is ∙ w.in_ok-push.ensures.items
          ∙ ap (λ (l : List V). l ++ w.in-Some.passed ∷ []) c.loop-value.invariant
          ∙ append_assoc old (filter_map h (take c.loop-value.value-index c.args.starts.now))
          (w.in-Some.passed ∷ [])
          ∙ ap (λ (l : List V). old ++ l)
          (sym (filter_map_more-Some h c.args.starts.now c.loop-value.value-index
          c.value-item.result w.in-Some.passed c.loop-value-test.true c.value-item.is
          (sym w.in-Some.ensures)))
      | in_default w ↦
          ap (λ v. v.items) w.values-is ∙ c.loop-value.invariant
          ∙ ap (λ (l : List V). old ++ l)
          (sym (filter_map_more-None h c.args.starts.now c.loop-value.value-index
          c.value-item.result c.loop-value-test.true c.value-item.is
          (sym w.in_default.ensures)))
    ]
