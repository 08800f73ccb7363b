use Rattle.rr_http.proofs.ReplyBytesLemmas as lemmas
use Rattle.rr_http.proofs.laws.answers_with_its_report.Goals as goal

pub returns : goal.returns
returns g c = lemmas.answers_with_its_report g.D.Registrar
