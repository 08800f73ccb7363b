use Rattle.std.proofs.Common.{inl, refl}
use Rattle.rr_answer.proofs.expansion.numbers.Goals as goal

pub returns-in-Ok-clause-ok : goal.returns-in-Ok-clause-ok
returns-in-Ok-clause-ok g c = inl (record {
  known = c.in-Ok.ensures.known;
  few = c.in-Ok.ensures.few;
  found = c.in-Ok.members.found.items;
  missing = c.in-Ok.members.missing.items;
  has = c.in-Ok.ensures.found.found;
  lacks = c.in-Ok.ensures.found.missing;
  text_is = refl;
})
