-- The fault of the first line comes before that of the later ones.
use Rattle.std.proofs.Common.{◌∙◌, sym, ap, arith}
use Rattle.std.proofs.lemmas.Bool.Decides.{nat_tests}
use Rattle.std.specs.Option.{option_or}
use Rattle.rr_text.specs.Lines.{text_lines}
use Rattle.rr_text.specs.Faults as faults
use Rattle.rr_text.proofs.FaultLemmas.{block_none, block_more}
use Rattle.rr_text.proofs.inspect.block_fault.Goals as goal

pub returns-then-is_empty : goal.returns-then-is_empty
returns-then-is_empty c = sym (block_none c.args.block.now (grind (arith, nat_tests)))

pub returns-in-Some : goal.returns-in-Some
returns-in-Some c = sym (ap faults.block_fault c.split_line.ensures.lines
    ∙
    (block_more _ _
    ∙ ap (λ f. option_or f (faults.later_fault (text_lines c.split_line.result.1.now)))
    (sym c.in-Some.ensures)))

pub returns-in-None : goal.returns-in-None
returns-in-None c = c.later_fault.ensures ∙ sym (ap faults.block_fault c.split_line.ensures.lines
    ∙
    (block_more _ _
    ∙ ap (λ f. option_or f (faults.later_fault (text_lines c.split_line.result.1.now)))
    (sym c.in-None.ensures)))
