use Rattle.rr_store.proofs.UpperLemmas.{some_as_read}
use Rattle.rr_store.proofs.upper.upper_object.Goals as goal

pub returns-clause-of_source : goal.returns-clause-of_source
returns-clause-of_source c =
    some_as_read c.args.source.now c.in_ok-paragraph.paragraph c.read_paragraph.result
    c.read_paragraph.ensures.found c.in_ok-paragraph.ensures.fields
