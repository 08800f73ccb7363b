-- The last address of a prefix is below 2^32.
use Rattle.std.proofs.Common.{arith}
use Rattle.rr_number.proofs.PrefixSpans.{count_of-positive, last_fits}
use Rattle.rr_number.proofs.prefix.Prefix.span.Goals as goal

pub overflow_cast-last : goal.overflow_cast-last
overflow_cast-last c =
    omega (arith, last_fits _ c.self.invariant, count_of-positive c.self.inside.length)
