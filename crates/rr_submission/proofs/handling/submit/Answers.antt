use Rattle.rr_submission.proofs.handling.submit.Goals as goal

pub returns-then-stopped-clause-keeps : goal.returns-then-stopped-clause-keeps
returns-then-stopped-clause-keeps g c = record {
  lasts = g.met.L.Ledger.lasts_still c.args.ledger.now;
  kept = c.stopped.ensures.kept;
}
