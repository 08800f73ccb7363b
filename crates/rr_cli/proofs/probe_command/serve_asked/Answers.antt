use Rattle.std.proofs.Common.{inl, inr, refl, rules}
use Rattle.rr_cli.proofs.probe_command.serve_asked.Goals as goal

pub returns-in-Ok-clause-read : goal.returns-in-Ok-clause-read
returns-in-Ok-clause-read g c = rw c.if-failed-eq0.true at c.take_turn-failed.ensures

pub returns-in-Err-clause-unread : goal.returns-in-Err-clause-unread
returns-in-Err-clause-unread g c = inr (record {
  takes = rw c.if-failed-eq0.true at c.take_turn-failed.ensures;
  error = c.in-Err.error;
  why = c.in-Err.ensures.why;
  told = search rules;
})

pub returns-else-failed-eq0-clause-unread : goal.returns-else-failed-eq0-clause-unread
returns-else-failed-eq0-clause-unread g c = inl (record {
  failed = c.take_turn-failed.result;
  some = search rules;
  takes = c.take_turn-failed.ensures;
  cause = _;
  told = refl;
})
