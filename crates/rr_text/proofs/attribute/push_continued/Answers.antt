use Rattle.std.proofs.Common.{◌≡◌, ◌∙◌, ap, length, arith}
use Rattle.std.proofs.lemmas.Bool.Decides.{nat_tests}
use Rattle.rr_text.specs.Entries.{continued}
use Rattle.rr_text.proofs.EntryLemmas.{entries_none, further, opened}
use Rattle.rr_text.proofs.KeptLemmas.{ended_by, step_by}
use Rattle.rr_text.proofs.attribute.push_continued.Goals as goal

pub returns-then-opens_attribute : goal.returns-then-opens_attribute
returns-then-opens_attribute c =
    ended_by _ _ _ c.lines.invariant (ap continued c.split_line.ensures.lines
    ∙ (opened _ _ _ c.of-kind.ensures (cc)).lines)

pub lines-preserved : goal.lines-preserved
lines-preserved c =
    step_by _ _ _ _ _ _ c.lines.invariant (ap continued c.split_line.ensures.lines
    ∙ (further _ _ _ c.of-kind.ensures (cc)).lines) c.in_ok-push_added.ensures

pub returns : goal.returns
returns c =
    let none : length c.lines.rest.now ≡ 0 = grind (arith, nat_tests) in
    ended_by _ _ _ c.lines.invariant (entries_none c.lines.rest.now none).0
