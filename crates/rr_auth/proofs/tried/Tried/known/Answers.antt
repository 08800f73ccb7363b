use Rattle.rr_auth.proofs.tried.Tried.known.Goals as goal

pub returns-in_default : goal.returns-in_default
returns-in_default c = λ secrets are. c.none.ensures secrets c.args.maintainer.now.auths
