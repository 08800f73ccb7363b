use Rattle.rr_http.proofs.FaultLemmas.{serves_tell}
use Rattle.rr_http.proofs.laws.ends_tell_failed_calls.Goals as goal

pub returns : goal.returns
returns g c = serves_tell g.D.Registrar
