-- Spans that do not cross, round one span: the smaller lies inside the larger.
use Rattle.std.proofs.Common.{◌≡◌, ℕ, ◌≤◌, true, false, arith}
use Rattle.std.proofs.lemmas.Bool.Decides.{nat_tests}
use Rattle.rr_number.specs.Spans.{Ends, covers, crosses, size}

pub covers_itself : (s : Ends) → covers s s ≡ true
covers_itself s = grind (arith, nat_tests)

-- what a cover covers, its own cover covers
pub covers_on : (s t u : Ends) → covers s t ≡ true → covers t u ≡ true → covers s u ≡ true
covers_on s t u e f = grind (arith, nat_tests)

-- of two spans round s that do not cross the smaller lies inside the other
pub inside_of : (s t p : Ends) → s.first ≤ s.last → covers t s ≡ true → covers p s ≡ true →
    size t ≤ size p → crosses t p ≡ false → covers p t ≡ true
inside_of s t p ordered e f smaller apart = grind (arith, nat_tests)

ends : ℕ → ℕ → Ends
ends first last = record { first = first; last = last }

same_first : (s t : Ends) → covers s t ≡ true → covers t s ≡ true → s.first ≡ t.first
same_first s t e f = grind (arith, nat_tests)

same_last : (s t : Ends) → covers s t ≡ true → covers t s ≡ true → s.last ≡ t.last
same_last s t e f = grind (arith, nat_tests)

-- only equal spans cover each other
pub cover_both : (s t : Ends) → covers s t ≡ true → covers t s ≡ true → s ≡ t
unfolding ends
cover_both s t e f = λ i. ends (same_first s t e f i) (same_last s t e f i)

-- two spans round s of one size that do not cross are one
pub one_span : (s t u : Ends) → s.first ≤ s.last → covers t s ≡ true → covers u s ≡ true →
    size t ≤ size u → size u ≤ size t → crosses t u ≡ false → crosses u t ≡ false → t ≡ u
one_span s t u ordered e f smaller larger apart back =
    cover_both t u (inside_of s u t ordered f e larger back)
    (inside_of s t u ordered e f smaller apart)
