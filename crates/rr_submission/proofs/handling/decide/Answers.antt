use Rattle.rr_submission.proofs.handling.decide.Goals as goal

pub returns-in-Err-clause-lasts : goal.returns-in-Err-clause-lasts
returns-in-Err-clause-lasts g c = record {
  running = c.requires.running;
  lasts = g.met.L.Ledger.lasts_still c.args.ledger.now;
  kept = λ kept. kept;
}
