-- The operator of a range, by its lengths.
use Rattle.std.proofs.Common.{arith}
use Rattle.rr_number.proofs.RangeLemmas.{for_plain, for_plus, for_minus, for_lengths}
use Rattle.rr_number.proofs.range.Range.operator.Goals as goal

pub returns-in-0-default : goal.returns-in-0-default
returns-in-0-default c =
    rw (← c.self.view_is)
    (for_plain _ c.self.invariant
    (rw c.length-length.ensures.value at c.in-0-default.is-0)
    (rw c.length-length.ensures.value at c.if-high-length.true))

pub returns-in-0-eq32 : goal.returns-in-0-eq32
returns-in-0-eq32 c =
    rw (← c.self.view_is)
    (for_plus _ c.self.invariant
    (rw c.length-length.ensures.value at c.in-0-default.is-0)
    (rw c.length-length.ensures.value at c.if-high-length.false)
    c.in-0-eq32.is-1)

pub returns-in-1-eq32 : goal.returns-in-1-eq32
returns-in-1-eq32 c =
    rw (← c.self.view_is)
    (for_minus _ c.self.invariant
    (rw c.length-length.ensures.value at c.in-1-eq32.is-0)
    c.in-1-eq32.is-1)

pub returns-in_default : goal.returns-in_default
returns-in_default c =
    let length = c.length-length.ensures.value in
    rw (c.between.ensures, ← c.self.view_is) (elim c.in_default.branch [
      | goal.in_default-via-in-0-default+else-high-length+in_default w ↦
          for_lengths _ c.self.invariant
          (λ start end. omega (arith, w.if-high-length.false, length))
          (λ start end. w.in_default.is-1.1 end)
          (λ start end. omega (arith, w.in-0-default.is-0, length))
      | goal.in_default-via-in-1+in_default w ↦
          for_lengths _ c.self.invariant
          (λ start end. omega (arith, w.in_default.is-0, length))
          (λ start end. omega (arith, w.in_default.is-0, length))
          (λ start end. w.in_default.is-1.1 end)
      | goal.in_default-via-in_default w ↦
          for_lengths _ c.self.invariant
          (λ start end. omega (arith, w.in_default.is-0.0.1, length))
          (λ start end. omega (arith, w.in_default.is-0.0.1, length))
          (λ start end. omega (arith, w.in_default.is-0.1, length))
    ])
