use Rattle.std.proofs.Common.{◌∙◌, ap, ◌+◌, ◌*◌}
use Rattle.std.specs.Prelude.{min}
use Rattle.rr_bytes.proofs.DigitLemmas.{capped_next}
use Rattle.rr_bytes.proofs.digits.capped_value.Goals as goal

pub digits-preserved : goal.digits-preserved
digits-preserved c =
    c.min-value.ensures ∙ (ap (λ n. min (c.digits.value * 10 + n) (c.args.greatest + 1))
    c.from.ensures
    ∙ capped_next c.args.digits.now _ _ c.args.greatest c.requires.digits c.digits-test.true
    c.digits.invariant)
