-- A byte has at most three digits.
use Rattle.std.proofs.Common.{ap, length, length-append, arith, rules}
use Rattle.rr_number.proofs.Decimals.{three_digits}
use Rattle.rr_number.proofs.number_text.NumberText.push_byte.Goals as goal

pub returns : goal.returns
returns c = record {
  value = search rules;
  short = omega (
    arith,
    simp length-append at (ap length c.push_number.ensures),
    three_digits c.from.result (omega arith),
  );
}
