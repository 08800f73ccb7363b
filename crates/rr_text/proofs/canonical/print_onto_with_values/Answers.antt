use Rattle.std.proofs.Common.{◌∙◌, [], append-nil, ap, map, sym}
use Rattle.std.proofs.lemmas.Result.{on_err_weaker}
use Rattle.rr_text.specs.CanonicalText.{canonical}
use Rattle.rr_text.specs.Fields.{with_value}
use Rattle.rr_text.proofs.KeptLemmas.{canonical_more, canonical_none, ended_by, none_valued}
use Rattle.rr_text.proofs.KeptLemmas.{step_by}
use Rattle.rr_text.proofs.PrintLemmas.{starts_more, starts_then}
use Rattle.rr_text.proofs.canonical.print_onto_with_values.Goals as goal

pub returns-then-not-has : goal.returns-then-not-has
returns-then-not-has c =
    let same = ap canonical (none_valued c.args.name.now c.args.line.now c.args.paragraph.now
    (sym c.has.ensures ∙ c.if-not-has.true)) in record {
      ok = rw same c.print_onto.ensures.ok;
      err = on_err_weaker c.print_onto.result
          (λ same. starts_more c.args.out.now.items [] c.print_onto.new.out.items
          (same ∙ sym (append-nil c.args.out.now.items))) c.print_onto.ensures.err;
    }

pub loop-attribute-preserved : goal.loop-attribute-preserved
loop-attribute-preserved c =
    let valued = with_value c.args.name.now c.args.line.now in (
      step_by _ _ _ _ _ _ c.loop-attribute.invariant.0
          (ap (λ fields. canonical (map valued fields)) c.in-Some.ensures.steps ∙ canonical_more
          (valued c.in-Some.attribute) (map valued c.next.new.self))
          c.in_ok-print_onto_with_value.ensures.ok,
      starts_then _ _ _ c.loop-attribute.invariant.1
          (starts_more _ _ _ c.in_ok-print_onto_with_value.ensures.ok),
    )

pub returns : goal.returns
returns c =
    let valued = with_value c.args.name.now c.args.line.now in record {
      ok = ended_by _ _ _ c.loop-attribute.invariant.0 (ap (λ fields. canonical (map valued fields))
          c.in-None.ensures.steps.0 ∙ canonical_none);
      err = tt;
    }
