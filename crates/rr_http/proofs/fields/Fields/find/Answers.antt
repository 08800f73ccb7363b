use Rattle.std.proofs.Common.{◌∙◌, sym}
use Rattle.rr_http.proofs.RequestLemmas.{values_passed, within_rest}
use Rattle.rr_http.proofs.fields.Fields.find.Goals as goal

pub fields-preserved : goal.fields-preserved
fields-preserved c = record {
  same = c.fields.invariant.same ∙ values_passed _ _ _ _ _ c.in-Some.ensures.cases.0
      (sym c.has_name.ensures ∙ c.if-has_name.false);
  within = within_rest _ _ _ _ c.in-Some.ensures.cases.0 c.fields.invariant.within;
}
