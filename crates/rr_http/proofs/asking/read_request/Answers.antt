use Rattle.std.proofs.Common.{◌∙◌}
use Rattle.rr_http.proofs.HeadReading.{parsed_asks}
use Rattle.rr_http.proofs.asking.read_request.Goals as goal

pub returns-in-Ok-clause-asks : goal.returns-in-Ok-clause-asks
returns-in-Ok-clause-asks c =
    let found = rw c.in-Ok-Complete.field-0-is at c.in-Ok-Complete.ensures.complete in
    parsed_asks _ _ _ _ _ _ _ found.1 c.parse_request.auto.headers c.of-in-Ok.ensures
    (c.as_bytes.ensures.value ∙ (c.in-Ok.ensures.cases.0 ∙ c.of.ensures))
    (rw c.new.ensures at c.asked_of.ensures.asks)
