use Rattle.std.proofs.Common.{◌++◌, ◌∙◌, Bor, List, ℕ, ap, map}
use Rattle.std.proofs.lemmas.Result.{IfOk-weaker}
use Rattle.rr_sets.specs.MemberParts.{number_reference, set_reference}
use Rattle.rr_sets.proofs.ReferenceLists.{references_of_as_set}
use Rattle.rr_sets.proofs.references.as_set_references.Goals as goal

pub returns : goal.returns
returns g c =
    let now : Bor (List ℕ) → List ℕ = λ n. n.now in
    IfOk-weaker c.plain_references.result _ _
    (λ references is. references_of_as_set (g.B.Book.contents c.args.book.now) c.args.name.now
    c.in_ok-numbers.numbers.items (map now c.in_ok-names.names.items) references.items
    c.in_ok-numbers.ensures (c.in_ok-names.ensures _ _ c.requires.found)
    (is ∙ ap (λ (l : List (Bor (List ℕ))). map number_reference c.in_ok-numbers.numbers.items
    ++ map set_reference (map now l)) c.deref.ensures.value))
    c.plain_references.ensures
