use Rattle.std.proofs.Common.{◌∙◌, List, ℕ, ap, sym, not, filter}
use Rattle.rr_text.specs.CanonicalText.{canonical}
use Rattle.rr_text.specs.Fields.{Field, has_name}
use Rattle.rr_text.proofs.KeptLemmas.{canonical_none, ended_by, step_by, taken_over}
use Rattle.rr_text.proofs.paragraph.printed_without.Goals as goal

pub loop-attribute-preserved-in-Continue-1 : goal.loop-attribute-preserved-in-Continue-1
loop-attribute-preserved-in-Continue-1 c =
    let kept : List Field → List ℕ = λ fields.
    canonical (filter (λ field. not (has_name c.args.name.now field)) fields) in
    step_by _ _ _ _ _ _ c.loop-attribute.invariant
    (ap kept c.in-Some.ensures.steps ∙ taken_over (has_name c.args.name.now) c.in-Some.attribute
    c.next.new.self (sym c.has_name.ensures ∙ c.if-not-has_name.true))
    c.in_ok-print_onto.ensures.ok

pub returns : goal.returns
returns c =
    let kept : List Field → List ℕ = λ fields.
    canonical (filter (λ field. not (has_name c.args.name.now field)) fields) in
    ended_by _ _ _ c.loop-attribute.invariant (ap kept c.in-None.ensures.steps.0 ∙ canonical_none)
