use Rattle.std.proofs.Common.{◌≡◌, ◌∙◌, ap, length, arith}
use Rattle.std.proofs.lemmas.Bool.Decides.{nat_tests}
use Rattle.rr_text.specs.Entries.{continued}
use Rattle.rr_text.proofs.EntryLemmas.{entries_none, opened}
use Rattle.rr_text.proofs.KeptLemmas.{ended_by, further_more, further_text, step_by}
use Rattle.rr_text.proofs.PrintLemmas.{starts_more, starts_then}
use Rattle.rr_text.proofs.printing.push_continuations.Goals as goal

pub returns-then-opens_attribute : goal.returns-then-opens_attribute
returns-then-opens_attribute c = record {
  ok = ended_by _ _ _ c.lines.invariant.0
      (ap further_text (ap continued c.split_line.ensures.lines
      ∙ (opened _ _ _ c.of-kind.ensures (cc)).lines));
  err = tt;
}

pub lines-preserved : goal.lines-preserved
lines-preserved c = (
  step_by _ _ _ _ _ _ c.lines.invariant.0
      (ap (λ lines. further_text (continued lines)) c.split_line.ensures.lines ∙ further_more _ _ _
      c.of-kind.ensures (cc)) c.in_ok-push_continuation.ensures.ok,
  starts_then _ _ _ c.lines.invariant.1 (starts_more _ _ _ c.in_ok-push_continuation.ensures.ok),
)

pub returns : goal.returns
returns c =
    let none : length c.lines.rest.now ≡ 0 = grind (arith, nat_tests) in record {
      ok = ended_by _ _ _ c.lines.invariant.0
          (ap further_text (entries_none c.lines.rest.now none).0);
      err = tt;
    }
