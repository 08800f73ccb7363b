use Rattle.std.proofs.Common.{◌≡◌, ◌<◌, ◌∙◌, ◌∷◌, ap, sym, subst, length, arith}
use Rattle.rr_text.specs.Lines.{text_lines}
use Rattle.std.proofs.lemmas.Bool.Decides.{nat_tests}
use Rattle.rr_text.specs.KeptText.{kept_fields}
use Rattle.rr_text.proofs.KeptLemmas.{kept_end, kept_next}
use Rattle.rr_text.proofs.attributes.AttributesIterator.next.Goals as goal

pub returns-then-is_empty-clause-steps : goal.returns-then-is_empty-clause-steps
returns-then-is_empty-clause-steps c =
    let none : length c.self.inside.line.now ≡ 0 = grind (arith, nat_tests) in
    let end = sym c.self.view_is ∙ kept_end _ _ c.self.invariant none in
    (end, end)

pub returns-clause-steps : goal.returns-clause-steps
returns-clause-steps c =
    let some : 0 < length c.self.inside.line.now = grind (arith, nat_tests) in
    sym c.self.view_is ∙ (kept_next _ _ _ _ c.self.invariant some c.next_opening.ensures.fields
    ∙ ap
    (λ field. field ∷ kept_fields (c.next_opening.result.0.now ∷ text_lines
    c.next_opening.result.1.now)) (sym c.opened-attribute.ensures))

pub returns-clause-goes : goal.returns-clause-goes
returns-clause-goes c =
    let some : 0 < length c.self.inside.line.now = grind (arith, nat_tests) in
    let next = sym c.self.view_is ∙ kept_next _ _ _ _ c.self.invariant some
    c.next_opening.ensures.fields in
    record {
      on = λ _. (
        tt,
        tt,
        subst
            (λ fields.
            length
            (kept_fields (c.next_opening.result.0.now ∷ text_lines c.next_opening.result.1.now)) <
            length fields) (sym next) (omega arith),
      );
      keeps = tt;
      rests = λ _. tt;
    }
