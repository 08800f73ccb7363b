use Rattle.std.proofs.Common.{◌++◌, ◌∙◌, [], ◌∷◌, Bor, List, ℕ, ap, append_assoc, map, sym, take}
use Rattle.std.proofs.lemmas.List.{append-nil, map-append, map_more}
use Rattle.rr_graph.specs.declared.labels.Edge.{Edge}
use Rattle.rr_number.specs.declared.operator.Operator.{Operator}
use Rattle.rr_object.specs.declared.member.MemberSet.{MemberSet}
use Rattle.rr_sets.specs.MemberParts.{number_reference, set_reference}
use Rattle.rr_sets.proofs.references.plain_references.Goals as goal

pub loop-name-init : goal.loop-name-init
loop-name-init c = c.in_ok-references.ensures
    ∙ sym (append-nil (map number_reference c.args.numbers.items))

pub loop-name-preserved : goal.loop-name-preserved
loop-name-preserved c =
    let E = Edge MemberSet Operator in
    let now : Bor (List ℕ) → List ℕ = λ n. n.now in
    let numbers : List E = map number_reference c.args.numbers.items in
    let names : List (List ℕ) = map now (take c.loop-name.name-index c.args.names.now) in
    c.in_ok-push.ensures.items
    ∙ ap (λ (e : E). c.loop-name.references.items ++ e ∷ [])
    (c.set_reference.ensures ∙ ap set_reference c.in_ok-copy.ensures)
    ∙ ap (λ (l : List E). l ++ set_reference c.name-item.result.now ∷ []) c.loop-name.invariant
    ∙ append_assoc numbers (map set_reference names) (set_reference c.name-item.result.now ∷ [])
    ∙ ap (λ (l : List E). numbers ++ l)
    (sym (ap (map set_reference)
    (map_more now c.args.names.now c.loop-name.name-index c.name-item.result c.loop-name-test.true
    ∙ ap (λ (n : Bor (List ℕ)). names ++ n.now ∷ []) (sym c.name-item.is))
    ∙ map-append set_reference names (c.name-item.result.now ∷ [])))
