use Rattle.std.proofs.Common.{◌≡◌, ◌∙◌, ap, sym, length, arith}
use Rattle.std.proofs.lemmas.Bool.Decides.{nat_tests}
use Rattle.rr_text.specs.KeptText.{kept_fields}
use Rattle.rr_text.proofs.KeptLemmas.{kept_none, kept_passed}
use Rattle.rr_text.proofs.attributes.next_opening.Goals as goal

pub lines-preserved : goal.lines-preserved
lines-preserved c = sym (ap kept_fields c.split_line.ensures.lines ∙ kept_passed _ _ _ c.of.ensures
    (cc)) ∙ c.lines.invariant

pub returns-clause-fields : goal.returns-clause-fields
returns-clause-fields c =
    let none : length c.lines.rest.now ≡ 0 = grind (arith, nat_tests) in
    kept_none c.lines.rest.now none ∙ c.lines.invariant
