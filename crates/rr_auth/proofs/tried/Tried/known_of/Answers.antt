use Rattle.std.proofs.Common.{Option, sym, subst}
use Rattle.std.specs.Prelude.{IfSome}
use Rattle.rr_auth.specs.declared.tried.Answer.{Answer}
use Rattle.rr_auth.specs.TrialParts.{IsTrial}
use Rattle.rr_auth.proofs.tried.Tried.known_of.Goals as goal

pub returns-in-Some : goal.returns-in-Some
returns-in-Some c = λ secrets are.
    c.trial_of.ensures secrets
    (subst (λ (o : Option Answer).
    IfSome o (λ answer. IsTrial secrets answer.lines.items answer.trial))
    (sym c.in-Some.ensures.value) (are c.args.name.now))

pub returns-in-None : goal.returns-in-None
returns-in-None c = λ secrets are. c.none.ensures secrets c.args.lines.now
