use Rattle.std.proofs.Common.{◌∙◌, ◌++◌, [], ◌∷◌, Bor, List, ℕ, ap, map, sym}
use Rattle.std.specs.Global.{Vec}
use Rattle.std.proofs.lemmas.List.{map-append}
use Rattle.rr_graph.proofs.Lists.{filter_map_more-None, filter_map_more-Some}
use Rattle.rr_sets.specs.SetObjects.{set_listed}
use Rattle.rr_sets.proofs.as_sets.sets_listed.Goals as goal
use Rattle.rr_sets.proofs.as_sets.sets_listed.Goals.{in-Some+in_ok-push, in_default}

pub loop-member-preserved : goal.loop-member-preserved
loop-member-preserved c =
    let now : Bor (List ℕ) → List ℕ = λ n. n.now in
    elim c.match-set_listed.branch [
      | in-Some+in_ok-push w ↦
          ap (λ (v : Vec (Bor (List ℕ))). map now v.items) w.names-is
          ∙ ap (map now) w.in_ok-push.ensures.items
          ∙ map-append now c.loop-member.names.items (w.in-Some.name ∷ [])
          ∙ ap (λ (l : List (List ℕ)). l ++ w.in-Some.name.now ∷ []) c.loop-member.invariant
          ∙ sym (filter_map_more-Some set_listed c.args.members.now c.loop-member.member-index
          c.member-item.result w.in-Some.name.now c.loop-member-test.true c.member-item.is
          (sym w.in-Some.ensures))
      | in_default w ↦
          ap (λ (v : Vec (Bor (List ℕ))). map now v.items) w.names-is ∙ c.loop-member.invariant
          ∙ sym (filter_map_more-None set_listed c.args.members.now c.loop-member.member-index
          c.member-item.result c.loop-member-test.true c.member-item.is
          (sym w.in_default.ensures))
    ]
