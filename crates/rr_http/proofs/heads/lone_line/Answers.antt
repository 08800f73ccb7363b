use Rattle.std.proofs.Common.{◌∙◌, sym, subst}
use Rattle.rr_http.specs.Wants.{IsHead}
use Rattle.rr_http.proofs.HeadReading.{lone_refused, lone_whois}
use Rattle.rr_http.proofs.heads.lone_line.Goals as goal

pub returns-then-speaks_http : goal.returns-then-speaks_http
returns-then-speaks_http c =
    subst (λ head. IsHead c.args.text.now head) (sym c.request_head.ensures)
    (lone_refused _ c.requires (sym c.speaks_http.ensures ∙ c.if-speaks_http.true))

pub returns-else-speaks_http : goal.returns-else-speaks_http
returns-else-speaks_http c = lone_whois _ c.requires
    (sym c.speaks_http.ensures ∙ c.if-speaks_http.false)
