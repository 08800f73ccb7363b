-- A number read so far has at most 18 digits where one more follows.
use Rattle.std.proofs.Common.{arith}
use Rattle.rr_number.proofs.Decimals.{few_digits}
use Rattle.rr_number.proofs.digits.read_number.Goals as goal

pub overflow_mul-number : goal.overflow_mul-number
overflow_mul-number c =
    omega (arith, few_digits c.bytes.number c.bytes.byte-index c.bytes.invariant.2 (omega arith))

pub overflow_add-number : goal.overflow_add-number
overflow_add-number c =
    omega (arith, few_digits c.bytes.number c.bytes.byte-index c.bytes.invariant.2 (omega arith))
