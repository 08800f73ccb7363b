use Rattle.std.proofs.Common.{List, sym, subst}
use Rattle.rr_object.specs.Parts.{AuthParts}
use Rattle.rr_auth.specs.TrialParts.{IsTrial}
use Rattle.rr_auth.proofs.Remembered.{answer_put}
use Rattle.rr_auth.proofs.tried.Tried.put.Goals as goal

pub returns : goal.returns
returns c = λ secrets were is.
    answer_put secrets c.in_ok-name.name
    (record { lines = c.in_ok-lines.lines; trial = c.args.trial }) c.args.self.now.answers
    c.insert.new.self c.in_ok-insert.ensures.updates were
    (subst (λ (lines : List AuthParts). IsTrial secrets lines c.args.trial)
    (sym c.in_ok-lines.ensures) is)
