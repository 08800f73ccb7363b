-- Lemmas on multiples of a number: for the spans of prefixes, and for trees of `rr_cover`.
use Rattle.std.proofs.Common.{◌≡◌, ℕ, ◌+◌, ◌-◌, ◌*◌, ◌/◌, ◌%◌, ◌<◌, ◌≤◌, arith}
use Rattle.std.proofs.Math.Nat.{div-add-mod, mul-mod_right, mul-le-mul_left, lt_of_mul-lt-mul_left}

-- what is left of a number without its remainder is a multiple
pub aligned : (n m : ℕ) → (n - n % m) % m ≡ 0
aligned n m =
    let parts : m * (n / m) + n % m ≡ n = div-add-mod n m in
    let multiple : n - n % m ≡ m * (n / m) = omega arith in
    rw multiple (mul-mod_right m (n / m))

-- a number with no remainder is a multiple
pub multiple_of : (n m : ℕ) → n % m ≡ 0 → n ≡ m * (n / m)
multiple_of n m even = omega (arith, div-add-mod n m)

-- a multiple below another one has room for a whole step
pub next_multiple : (m a b : ℕ) → m * a < m * b → m * a + m ≤ m * b
next_multiple m a b below =
    let less : a < b = lt_of_mul-lt-mul_left m below in
    let step : a + 1 ≤ b = omega arith in
    omega (arith, mul-le-mul_left m step)
