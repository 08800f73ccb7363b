use Rattle.std.proofs.Common.{arith, rules}
use Rattle.rr_number.specs.AsSpans.{as_span_of}
use Rattle.rr_number.proofs.AsSpanLemmas.{ends_are_numbers}
use Rattle.rr_number.proofs.as_span.read_block.Goals as goal

pub returns-in_err-first : goal.returns-in_err-first
unfolding as_span_of
returns-in_err-first c = search rules

pub returns-in_err-span : goal.returns-in_err-span
unfolding as_span_of
returns-in_err-span c = grind (arith, ends_are_numbers)

pub returns : goal.returns
unfolding as_span_of
returns c = grind (arith, ends_are_numbers)
