use Rattle.std.proofs.Common.{◌∙◌, sym}
use Rattle.rr_object.proofs.Parsed.{key_first, key_none}
use Rattle.rr_object.proofs.paragraph_key.key_of.Goals as goal

pub returns-in-Some : goal.returns-in-Some
returns-in-Some c =
    rw (key_first c.args.paragraph.now _ c.in-Some.first (sym c.attributes.ensures.value
    ∙ c.in-Some.ensures.steps)) c.key_by.ensures

pub returns-in-None : goal.returns-in-None
returns-in-None c = record {
  ok = tt;
  fault = λ _. key_none c.args.paragraph.now
      (sym c.attributes.ensures.value ∙ c.in-None.ensures.steps.0);
}
