-- Two spans that meet share the larger of their first numbers.
use Rattle.std.proofs.Common.{◌≡◌, ℕ, ◌≤◌, true, max, arith}
use Rattle.std.proofs.lemmas.Grind.{common_steps}
use Rattle.rr_number.specs.Spans.{Ends, IsSpan, LiesIn, meets}
use Rattle.rr_number.proofs.span.laws.spans_are_sets.Goals as goal

shared : (s t : Ends) → IsSpan s → IsSpan t → meets s t ≡ true → (n : ℕ) × (LiesIn n s × LiesIn n t)
shared s t p q e =
    let a : s.first ≤ t.last = grind (arith, common_steps) in
    let b : t.first ≤ s.last = grind (arith, common_steps) in
    let c : s.first ≤ s.last = p.ordered in
    let d : t.first ≤ t.last = q.ordered in (
      max s.first t.first,
      (
        record { from = omega arith; to = omega arith },
        record { from = omega arith; to = omega arith },
      ),
    )

meeting : (s t : Ends) → (n : ℕ) → LiesIn n s → LiesIn n t → meets s t ≡ true
meeting s t n p q = grind (arith, common_steps)

pub returns-clause-sharing : goal.returns-clause-sharing
returns-clause-sharing c = λ s t p q. (shared s t p q, λ w. meeting s t w.0 w.1.0 w.1.1)
