use Rattle.std.proofs.Common.{◌∙◌, rules, sym, tests}
use Rattle.std.proofs.lemmas.Iterator.Consumers.{YieldsList-from_first}
use Rattle.std.proofs.lemmas.Iterator.Search.{find_from_yields_List}
use Rattle.std.proofs.lemmas.Iterator.Adapters.{option_map_id}
use Rattle.rr_object.specs.Kinds.{kind_name}
use Rattle.rr_object.specs.declared.kind.Kind.TheVariants.{Source}
use Rattle.rr_text.specs.Fields.{has_name}
use Rattle.rr_store.proofs.leaving_names.first_source_attribute.Goals as goal

pub returns : goal.returns
returns c =
    sym (option_map_id c.find.result)
    ∙ find_from_yields_List (has_name (kind_name Source)) _ _ c.find.result c.find.ensures.ran
    (YieldsList-from_first (λ field. field) (λ fields. fields) c.args.paragraph.now
    c.attributes.ensures.value) (λ x b q k. search (rules, tests))
