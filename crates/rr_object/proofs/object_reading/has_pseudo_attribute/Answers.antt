use Rattle.std.proofs.Common.{rules, tests}
use Rattle.std.proofs.lemmas.Iterator.Consumers.{YieldsList-from_first}
use Rattle.std.proofs.lemmas.Iterator.Search.{any_from_yields_List}
use Rattle.rr_object.specs.Readings.{is_pseudo_attribute}
use Rattle.rr_object.proofs.object_reading.has_pseudo_attribute.Goals as goal

pub returns : goal.returns
returns c =
    any_from_yields_List is_pseudo_attribute _ _ _ c.any.ensures.ran
    (YieldsList-from_first (λ field. field) (λ fields. fields) c.args.paragraph.now
    c.attributes.ensures.value) (λ x b q k. search (rules, tests))
