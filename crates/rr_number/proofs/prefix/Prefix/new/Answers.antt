-- The bits past the length are put to zero.
use Rattle.std.proofs.Common.{◌≡◌, ◌-◌, ◌%◌}
use Rattle.rr_number.specs.Prefixes.{count_of}
use Rattle.rr_number.proofs.PrefixSpans.{IsMasked-masked}
use Rattle.rr_number.proofs.prefix.Prefix.new.Goals as goal

pub invariant_of-result : goal.invariant_of-result
invariant_of-result c =
    let bits : c.from_bits.result ≡ c.args.address - c.args.address % count_of c.args.length = cc in
    rw bits (IsMasked-masked c.args.address c.args.length c.to_bits.ensures.holds c.requires)
