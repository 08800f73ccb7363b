use Rattle.std.proofs.Common.{◌++◌, ◌∙◌, [], ◌∷◌, ℕ, Bor, List, Option, ap, sym}
use Rattle.std.specs.List.{filter_map}
use Rattle.std.specs.Option.{option_copied}
use Rattle.std.proofs.lemmas.List.{take_all}
use Rattle.rr_graph.proofs.Lists.{filter_map_more-None, filter_map_more-Some}
use Rattle.rr_object.specs.Objects.{Obj}
use Rattle.rr_object.specs.declared.member.MemberSet.{MemberSet}
use Rattle.rr_sets.specs.MemberParts.{missing_name}
use Rattle.rr_sets.specs.RouteSets.{FindsSet}
use Rattle.rr_sets.proofs.Looking.{look_at}
use Rattle.rr_sets.proofs.route_sets.missing_names.Goals as goal
use Rattle.rr_sets.proofs.route_sets.missing_names.Goals.{in-Some+in_ok-copy+in_ok-push, in_default}

pub loop-place-preserved : goal.loop-place-preserved
loop-place-preserved c = λ r looks.
    let found : FindsSet r c.index-sets-place.result (option_copied c.index-objects-place.result) =
    look_at (λ (set : MemberSet). λ (object : Option (Bor Obj)). FindsSet r set
    (option_copied object)) c.args.sets.now c.args.objects.now c.loop-place.place
    c.index-sets-place.result c.index-objects-place.result looks c.loop-place-test.true
    c.index-sets-place.is c.index-objects-place.is in
    elim c.match-missing_name.branch [
      | in-Some+in_ok-copy+in_ok-push w ↦
          ap (λ v. v.items) w.missing-is ∙ w.in_ok-push.ensures.items
          ∙ ap (λ (n : List ℕ). c.loop-place.missing.items ++ n ∷ []) w.in_ok-copy.ensures
          ∙ ap (λ (l : List (List ℕ)). l ++ w.in-Some.name.now ∷ [])
          (c.loop-place.invariant r looks)
          ∙ sym (filter_map_more-Some (missing_name r) c.args.sets.now c.loop-place.place
          c.index-sets-place.result w.in-Some.name.now c.loop-place-test.true
          c.index-sets-place.is (sym (w.in-Some.ensures r found)))
      | in_default w ↦
          ap (λ v. v.items) w.missing-is ∙ c.loop-place.invariant r looks
          ∙ sym (filter_map_more-None (missing_name r) c.args.sets.now c.loop-place.place
          c.index-sets-place.result c.loop-place-test.true c.index-sets-place.is
          (sym (w.in_default.ensures r found)))
    ]

pub returns : goal.returns
returns c = λ r looks.
    c.loop-place.invariant r looks
    ∙ ap (filter_map (missing_name r))
    (take_all c.loop-place.place c.args.sets.now c.loop-place-test.false)
