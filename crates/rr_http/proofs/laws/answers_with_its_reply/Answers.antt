use Rattle.rr_http.proofs.ReplyBytesLemmas as lemmas
use Rattle.rr_http.proofs.laws.answers_with_its_reply.Goals as goal

pub returns : goal.returns
returns g c = lemmas.answers_with_its_reply g.D.Registrar
