use Rattle.std.proofs.Common.{rules, tests}
use Rattle.std.proofs.lemmas.Iterator.Consumers.{YieldsList-from_first}
use Rattle.std.proofs.lemmas.Iterator.Search.{any_from_yields_List}
use Rattle.rr_text.specs.Fields.{has_name}
use Rattle.rr_text.proofs.paragraph.Paragraph.has.Goals as goal

pub returns : goal.returns
returns c =
    any_from_yields_List (has_name c.args.name.now) _ _ _ c.any.ensures.ran
    (YieldsList-from_first (λ field. field) (λ fields. fields) c.args.self.now
    c.attributes.ensures.value) (λ x b q k. search (rules, tests))
