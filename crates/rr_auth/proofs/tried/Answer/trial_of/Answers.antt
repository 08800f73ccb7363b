use Rattle.rr_auth.proofs.tried.Answer.trial_of.Goals as goal

pub returns-else-are_lines : goal.returns-else-are_lines
returns-else-are_lines c = λ secrets is. c.none.ensures secrets c.args.lines.now
