use Rattle.rr_http.proofs.TurnEventLemmas.{turns_are_events}
use Rattle.rr_http.proofs.laws.turns_are_events.Goals as goal

pub returns : goal.returns
returns g c = turns_are_events g.S.Store
