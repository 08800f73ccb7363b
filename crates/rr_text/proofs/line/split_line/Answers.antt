-- The first line ends at the first LF, and where there is none it is the whole text.
use Rattle.std.proofs.Common.{inl, inr, arith}
use Rattle.std.proofs.lemmas.Grind.{common_steps}
use Rattle.rr_text.proofs.LineLemmas.{cut_some, cut_none, no_lines}
use Rattle.rr_text.proofs.line.split_line.Goals as goal

pub returns-in-Some-clause-lines : goal.returns-in-Some-clause-lines
returns-in-Some-clause-lines c = (cut_some _ _ _ _ c.in-Some.ensures c.split_at.ensures.front
    c.split_at.ensures.back).lines

pub returns-in-Some-clause-single : goal.returns-in-Some-clause-single
returns-in-Some-clause-single c = (cut_some _ _ _ _ c.in-Some.ensures c.split_at.ensures.front
    c.split_at.ensures.back).single

pub returns-in-Some-clause-ended : goal.returns-in-Some-clause-ended
returns-in-Some-clause-ended c = inl (cut_some _ _ _ _ c.in-Some.ensures c.split_at.ensures.front
    c.split_at.ensures.back).ended

pub returns-in-None-clause-lines : goal.returns-in-None-clause-lines
returns-in-None-clause-lines c =
    let prefix = c.split_at-in-None.ensures.front in
    let back = c.split_at-in-None.ensures.back in
    let one = cut_none c.args.text.now c.in-None.ensures c.requires in
    grind (arith, common_steps, no_lines)

pub returns-in-None-clause-single : goal.returns-in-None-clause-single
returns-in-None-clause-single c =
    let one = cut_none c.args.text.now c.in-None.ensures c.requires in
    grind (arith, common_steps)

pub returns-in-None-clause-ended : goal.returns-in-None-clause-ended
returns-in-None-clause-ended c = inr (grind (arith, common_steps))
