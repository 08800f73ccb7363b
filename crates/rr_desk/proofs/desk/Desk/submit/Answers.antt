use Rattle.rr_desk.proofs.Sources.{same_desk, submitted_of_source}
use Rattle.std.proofs.Common.{ap, refl}
use Rattle.rr_desk.specs.Histories.Happens.{submission}
use Rattle.rr_desk.proofs.desk.Desk.submit.Goals as goal

pub returns-clause-stopped : goal.returns-clause-stopped
returns-clause-stopped g c = λ stopped.
    let refused = c.submit.ensures.stopped stopped in (
      refused.0,
      same_desk c.args.self.now c.submit.new.ledger refused.1,
      refused.2,
      refused.3,
    )

pub returns-clause-submits : goal.returns-clause-submits
returns-clause-submits g c = λ running. rw (← c.source-source.ensures.source)
    (c.submit.ensures.submits running)

pub returns-clause-leaves : goal.returns-clause-leaves
returns-clause-leaves g c = record {
  runs_on = c.submit.ensures.running;
  rows = c.submit.ensures.keeps.kept;
  of_source = submitted_of_source g.S.Store c.args.self.now.settings.source c.args.self.now.stock
      c.submit.new.ledger _ _ _ _ _
      (λ stopped. (c.submit.ensures.stopped stopped).1)
      (λ running. rw c.source-source.ensures.source at (c.submit.ensures.submits running));
  lasts = c.submit.ensures.keeps.lasts;
  settings = refl;
}

pub returns-clause-event : goal.returns-clause-event
returns-clause-event g c = submission _ _ _ _ _ _ _ (record {
  refuses = λ halted.
      let refused = returns-clause-stopped g c halted in (
        refused.0,
        refused.1,
        ap (λ r. g.R.Reader.told r) refused.2,
        ap (λ w. g.W.Writer.told w)
            refused.3,
      );
  submits = returns-clause-submits g c;
  leaves = returns-clause-leaves g c;
})
