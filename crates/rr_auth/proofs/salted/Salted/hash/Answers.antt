use Rattle.std.proofs.Common.{ℕ, List, subst, ◌∙◌}
use Rattle.rr_auth.specs.TrialParts.{HasDigests}
use Rattle.rr_auth.proofs.Remembered.{salt_put}
use Rattle.rr_auth.proofs.salted.Salted.hash.Goals as goal

pub returns-clause-answer : goal.returns-clause-answer
returns-clause-answer c =
    let has : HasDigests c.args.salt.items c.args.wanted.now c.args.secrets.now
    c.in_ok-digests.digests =
    subst (λ (salt : List ℕ). HasDigests salt c.args.wanted.now c.args.secrets.now
    c.in_ok-digests.digests) c.deref.ensures.value c.in_ok-digests.ensures in record {
      answer = c.contains-fits.ensures ∙ has c.args.digest.now c.requires.wanted;
      remembers = salt_put c.args.wanted.now c.args.secrets.now c.args.salt
          c.in_ok-digests.digests c.args.self.now.digests c.insert.new.self
          c.in_ok-insert.ensures.updates c.requires.remembered has;
    }
