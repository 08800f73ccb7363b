use Rattle.std.proofs.Common.{◌++◌, ◌∙◌, [], ◌∷◌, List, ap, sym}
use Rattle.rr_graph.specs.declared.labels.Edge.{Edge}
use Rattle.rr_graph.proofs.Lists.{filter_map_more-None, filter_map_more-Some}
use Rattle.rr_number.specs.declared.operator.Operator.{Operator}
use Rattle.rr_object.specs.declared.member.MemberSet.{MemberSet}
use Rattle.rr_sets.specs.MemberParts.{reference_of}
use Rattle.rr_sets.proofs.references.references_listed.Goals as goal
use Rattle.rr_sets.proofs.references.references_listed.Goals.{in-Set+in_ok-copy_of+in_ok-push}
use Rattle.rr_sets.proofs.references.references_listed.Goals.{in_default}

pub loop-member-preserved : goal.loop-member-preserved
loop-member-preserved c =
    elim c.match-member.branch [
      | in-Set+in_ok-copy_of+in_ok-push w ↦
          ap (λ v. v.items) w.references-is ∙ w.in_ok-push.ensures.items
          ∙ ap (λ (set : MemberSet). c.loop-member.references.items ++ record {
            to = set;
            label =
                w.in-Set.operator;
          } ∷ []) w.in_ok-copy_of.ensures
          ∙ ap (λ (l : List (Edge MemberSet Operator)). l ++ record {
            to = w.in-Set.set;
            label =
                w.in-Set.operator;
          } ∷ []) c.loop-member.invariant
          ∙ sym (filter_map_more-Some reference_of c.args.members.now c.loop-member.member-index
          c.member-item.result (record { to = w.in-Set.set; label = w.in-Set.operator })
          c.loop-member-test.true c.member-item.is (ap reference_of w.in-Set.is))
      | in_default w ↦
          ap (λ v. v.items) w.references-is ∙ c.loop-member.invariant
          ∙ sym (filter_map_more-None reference_of c.args.members.now c.loop-member.member-index
          c.member-item.result c.loop-member-test.true c.member-item.is
          (ap reference_of w.in_default.is))
    ]
