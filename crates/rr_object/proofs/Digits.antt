-- Numbers of so many digits are ordered as their digits are.
use Rattle.std.proofs.Common.{◌≡◌, ℕ, zero, suc, ◌+◌, ◌*◌, ◌/◌, ◌%◌, ◌<◌, ◌==◌, Bool, true, ◌&&◌}
use Rattle.std.proofs.Common.{inl, inr, List, [], ◌∷◌, ◌++◌, length, slice_index, refl, sym, ap}
use Rattle.std.proofs.Common.{◌∙◌, arith}
use Rattle.std.proofs.lemmas.Bool.{and_parts, cases_lt, eqb-true}
use Rattle.std.specs.declared.cmp.Ordering.{Ordering}
use Rattle.std.specs.declared.cmp.Ordering.TheVariants.{Less, Equal, Greater}
use Rattle.std.specs.Ordering.{MatchOrdering, nat_cmp, ordering_then}
use Rattle.std.specs.Cmp.{nat_cmp_is, ranks}
use Rattle.std.specs.Cmp.Lexicographic.{slice_cmp}
use Rattle.std.specs.Int.{to_be_bytes, w16, w32}
use Rattle.hex.specs.Hex.{encode_lower, encode_with, lower_digits}

pub then_assoc : (a b c : Ordering) → ordering_then (ordering_then a b) c ≡ ordering_then a
    (ordering_then b c)
then_assoc Less b c = refl
then_assoc Equal b c = refl
then_assoc Greater b c = refl

pub then_equal : (a : Ordering) → ordering_then a Equal ≡ a
then_equal Less = refl
then_equal Equal = refl
then_equal Greater = refl

-- texts after texts of one length are ordered by the first, then by the second
pub joined_cmp : (a b c d : List ℕ) → length a ≡ length c
    → slice_cmp nat_cmp (a ++ b) (c ++ d) ≡ ordering_then (slice_cmp nat_cmp a c)
    (slice_cmp nat_cmp b d)
joined_cmp [] b [] d e = refl
joined_cmp [] b (y ∷ c) d e = absurd (omega arith)
joined_cmp (x ∷ a) b [] d e = absurd (omega arith)
joined_cmp (x ∷ a) b (y ∷ c) d e =
    let further : length a ≡ length c = omega arith in
    ap (ordering_then (nat_cmp x y)) (joined_cmp a b c d further)
    ∙ sym (then_assoc (nat_cmp x y) (slice_cmp nat_cmp a c) (slice_cmp nat_cmp b d))

-- what rises with a number is ordered as it is
same_step : (a b x y : ℕ) (o : Ordering) → (x < y → a < b) → (x ≡ y → a ≡ b) → (y < x → b < a)
    → MatchOrdering o (x < y) (x ≡ y) (y < x) → nat_cmp a b ≡ o
same_step a b x y Less up same down at = sym (nat_cmp_is a b Less (up at))
same_step a b x y Equal up same down at = sym (nat_cmp_is a b Equal (same at))
same_step a b x y Greater up same down at = sym (nat_cmp_is a b Greater (down at))

same_order : (a b x y : ℕ) → (x < y → a < b) → (x ≡ y → a ≡ b) → (y < x → b < a) → nat_cmp a b
    ≡ nat_cmp x y
same_order a b x y up same down = same_step a b x y (nat_cmp x y) up same down (ranks x y)

-- a high and a low part below a base are ordered as the number that they make
parts_step : (h l i k m n : ℕ) (o p : Ordering) → (h < i → m < n) → (h ≡ i → l < k → m < n) →
    (h ≡ i → l ≡ k → m ≡ n)
    → (h ≡ i → k < l → n < m) → (i < h → n < m)
    → MatchOrdering o (h < i) (h ≡ i) (i < h) → MatchOrdering p (l < k) (l ≡ k) (k < l) →
    ordering_then o p ≡ nat_cmp m n
parts_step h l i k m n Less p up less same more down at low = nat_cmp_is m n Less (up at)
parts_step h l i k m n Greater p up less same more down at low = nat_cmp_is m n Greater (down at)
parts_step h l i k m n Equal Less up less same more down at low = nat_cmp_is m n Less (less at low)
parts_step h l i k m n Equal Equal up less same more down at low = nat_cmp_is m n Equal
    (same at low)
parts_step h l i k m n Equal Greater up less same more down at low = nat_cmp_is m n Greater
    (more at low)

parts_order : (h l i k m n : ℕ) → (h < i → m < n) → (h ≡ i → l < k → m < n) →
    (h ≡ i → l ≡ k → m ≡ n)
    → (h ≡ i → k < l → n < m) → (i < h → n < m) → ordering_then (nat_cmp h i) (nat_cmp l k)
    ≡ nat_cmp m n
parts_order h l i k m n up less same more down =
    parts_step h l i k m n (nat_cmp h i) (nat_cmp l k) up less same more down (ranks h i)
    (ranks l k)

-- the decimal digits of a number below 100
pub decimal_parts : (m n : ℕ) → ordering_then (nat_cmp (48 + m / 10) (48 + n / 10))
    (nat_cmp (48 + m % 10) (48 + n % 10)) ≡ nat_cmp m n
decimal_parts m n =
    parts_order (48 + m / 10) (48 + m % 10) (48 + n / 10) (48 + n % 10) m n
    (λ e. omega arith) (λ e f. omega arith) (λ e f. omega arith) (λ e f. omega arith)
    (λ e. omega arith)

hex_parts : (m n : ℕ) → ordering_then (nat_cmp (m / 16) (n / 16)) (nat_cmp (m % 16) (n % 16))
    ≡ nat_cmp m n
hex_parts m n =
    parts_order (m / 16) (m % 16) (n / 16) (n % 16) m n
    (λ e. omega arith) (λ e f. omega arith) (λ e f. omega arith) (λ e f. omega arith)
    (λ e. omega arith)

-- the sixteen digits rise: those from 10 on are letters, which stand 39 places after the digits
-- before them
is_digit_of : ℕ → Bool
is_digit_of n = slice_index lower_digits n == 48 + n + 39 * (n / 10)

are_digits_below : ℕ → Bool
are_digits_below zero = true
are_digits_below (suc n) = is_digit_of n && are_digits_below n

digit_below : (n k : ℕ) → are_digits_below n ≡ true → k < n → is_digit_of k ≡ true
unfolding are_digits_below
digit_below zero k all lt = absurd (omega arith)
digit_below (suc n) k all lt =
    let parts = and_parts (is_digit_of n) (are_digits_below n) all in
    elim (cases_lt k n) [
      | inl below ↦ digit_below n k parts.1 below
      | inr top ↦
          let e : k ≡ n = omega arith in
          rw e parts.0
    ]

digit_at : (d : ℕ) → d < 16 → slice_index lower_digits d ≡ 48 + d + 39 * (d / 10)
unfolding is_digit_of are_digits_below
digit_at d lt = eqb-true (slice_index lower_digits d) (48 + d + 39 * (d / 10))
    (digit_below 16 d refl lt)

digit_cmp : (a b : ℕ) → a < 16 → b < 16 → nat_cmp (slice_index lower_digits a)
    (slice_index lower_digits b) ≡ nat_cmp a b
digit_cmp a b la lb =
    let ea = digit_at a la in
    let eb = digit_at b lb in
    rw (ea, eb) (same_order (48 + a + 39 * (a / 10)) (48 + b + 39 * (b / 10)) a b
    (λ e. omega arith) (λ e. omega arith) (λ e. omega arith))

-- all of these are bytes
abbrev pub AreBytes : List ℕ → Type 0
AreBytes [] = Unit {0}
AreBytes (x ∷ xs) = (x < 256) × AreBytes xs

byte_cmp : (x y : ℕ) (o : Ordering) → x < 256 → y < 256
    → ordering_then (nat_cmp (slice_index lower_digits (x / 16))
    (slice_index lower_digits (y / 16)))
    (ordering_then (nat_cmp (slice_index lower_digits (x % 16))
    (slice_index lower_digits (y % 16))) o)
    ≡ ordering_then (nat_cmp x y) o
byte_cmp x y o lx ly =
    let high = digit_cmp (x / 16) (y / 16) (omega arith) (omega arith) in
    let low = digit_cmp (x % 16) (y % 16) (omega arith) (omega arith) in
    rw (high, low)
    (sym (then_assoc (nat_cmp (x / 16) (y / 16)) (nat_cmp (x % 16) (y % 16)) o)
    ∙ ap (λ r. ordering_then r o) (hex_parts x y))

-- the hexadecimal texts of bytes are ordered as the bytes are
pub hex_cmp : (xs ys : List ℕ) → AreBytes xs → AreBytes ys
    → slice_cmp nat_cmp (encode_lower xs) (encode_lower ys) ≡ slice_cmp nat_cmp xs ys
unfolding encode_with
hex_cmp [] [] bx by = refl
hex_cmp [] (y ∷ ys) bx by = refl
hex_cmp (x ∷ xs) [] bx by = refl
hex_cmp (x ∷ xs) (y ∷ ys) bx by =
    byte_cmp x y (slice_cmp nat_cmp (encode_with lower_digits xs) (encode_with lower_digits ys))
    bx.0 by.0
    ∙ ap (ordering_then (nat_cmp x y)) (hex_cmp xs ys bx.1 by.1)

-- the bytes of numbers of two and of four bytes are ordered as the numbers are
pub two_bytes : (n : ℕ) → AreBytes (to_be_bytes w16 n)
two_bytes n = (omega arith, (omega arith, tt))

pub four_bytes : (n : ℕ) → AreBytes (to_be_bytes w32 n)
four_bytes n = (omega arith, (omega arith, (omega arith, (omega arith, tt))))

pair_parts : (m n : ℕ) → m < 65536 → n < 65536
    → ordering_then (nat_cmp (m / 256 % 256) (n / 256 % 256)) (nat_cmp (m % 256) (n % 256))
    ≡ nat_cmp m n
pair_parts m n lm ln =
    parts_order (m / 256 % 256) (m % 256) (n / 256 % 256) (n % 256) m n
    (λ e. omega arith) (λ e f. omega arith) (λ e f. omega arith) (λ e f. omega arith)
    (λ e. omega arith)

pub two_bytes_cmp : (m n : ℕ) → m < 65536 → n < 65536 → slice_cmp nat_cmp (to_be_bytes w16 m)
    (to_be_bytes w16 n) ≡ nat_cmp m n
two_bytes_cmp m n lm ln =
    ap (ordering_then (nat_cmp (m / 256 % 256) (n / 256 % 256)))
    (then_equal (nat_cmp (m % 256) (n % 256))) ∙ pair_parts m n lm ln

-- a number of four bytes in halves
first_byte : (n : ℕ) → n / 16777216 % 256 ≡ n / 65536 / 256 % 256
first_byte n = omega arith

third_byte : (n : ℕ) → n / 256 % 256 ≡ n % 65536 / 256 % 256
third_byte n = omega arith

last_byte : (n : ℕ) → n % 256 ≡ n % 65536 % 256
last_byte n = omega arith

half_parts : (m n : ℕ) → ordering_then (nat_cmp (m / 65536) (n / 65536))
    (nat_cmp (m % 65536) (n % 65536)) ≡ nat_cmp m n
half_parts m n =
    parts_order (m / 65536) (m % 65536) (n / 65536) (n % 65536) m n
    (λ e. omega arith) (λ e f. omega arith) (λ e f. omega arith) (λ e f. omega arith)
    (λ e. omega arith)

first_half : (m n : ℕ) → m < 4294967296 → n < 4294967296
    → ordering_then (nat_cmp (m / 16777216 % 256) (n / 16777216 % 256))
    (nat_cmp (m / 65536 % 256) (n / 65536 % 256))
    ≡ nat_cmp (m / 65536) (n / 65536)
first_half m n lm ln =
    rw (first_byte m, first_byte n) (pair_parts (m / 65536) (n / 65536) (omega arith) (omega arith))

second_half : (m n : ℕ)
    → ordering_then (nat_cmp (m / 256 % 256) (n / 256 % 256)) (nat_cmp (m % 256) (n % 256))
    ≡ nat_cmp (m % 65536) (n % 65536)
second_half m n =
    rw (third_byte m, third_byte n, last_byte m, last_byte n)
    (pair_parts (m % 65536) (n % 65536) (omega arith) (omega arith))

four_orders : (a b c d : Ordering)
    → ordering_then a (ordering_then b (ordering_then c (ordering_then d Equal))) ≡ ordering_then
    (ordering_then a b) (ordering_then c d)
four_orders Less b c d = refl
four_orders Equal b c d = ap (λ o. ordering_then b (ordering_then c o)) (then_equal d)
four_orders Greater b c d = refl

pub four_bytes_cmp : (m n : ℕ) → m < 4294967296 → n < 4294967296
    → slice_cmp nat_cmp (to_be_bytes w32 m) (to_be_bytes w32 n) ≡ nat_cmp m n
four_bytes_cmp m n lm ln =
    four_orders (nat_cmp (m / 16777216 % 256) (n / 16777216 % 256))
    (nat_cmp (m / 65536 % 256) (n / 65536 % 256))
    (nat_cmp (m / 256 % 256) (n / 256 % 256)) (nat_cmp (m % 256) (n % 256))
    ∙ ap (ordering_then _) (second_half m n)
    ∙ ap (λ o. ordering_then o (nat_cmp (m % 65536) (n % 65536))) (first_half m n lm ln)
    ∙ half_parts m n
