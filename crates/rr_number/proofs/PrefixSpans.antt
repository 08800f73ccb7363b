-- Lemmas on the spans of prefixes: for `Prefix::new` and `span`, for `laws`, and for all crates
-- that find routes by their prefixes.
use Rattle.std.proofs.Common.{◌≡◌, ℕ, ◌+◌, ◌-◌, ◌*◌, ◌/◌, ◌^◌, ◌<◌, ◌≤◌, true, inl, inr, ap, ◌∙◌}
use Rattle.std.proofs.Common.{arith, ◌⊎◌, not, ◌&&◌, Bool, refl, false}
use Rattle.std.proofs.lemmas.Nat.{pow_pos, pow-add, pow_below}
use Rattle.std.proofs.lemmas.Bool.{cases_lt}
use Rattle.std.proofs.lemmas.Bool.Decides.{nat_tests}
use Rattle.rr_number.specs.Prefixes.{PrefixParts, IsMasked, masked, count_of, span_of}
use Rattle.rr_number.specs.Spans.{crosses, Ends, IsSpan, covers, meets}
use Rattle.rr_number.proofs.Multiples.{aligned, multiple_of, next_multiple}

-- some addresses share the bits
pub count_of-positive : (length : ℕ) → 0 < count_of length
count_of-positive length = pow_pos (32 - length)

-- an address with its bits past the length put to zero makes a prefix
pub IsMasked-masked : (address length : ℕ) → address < 2 ^ 32 → length ≤ 32 →
    IsMasked (masked address length)
IsMasked-masked address length fits short = record {
  short = short;
  fits = omega arith;
  aligned = aligned address (count_of length);
}

-- a prefix reads as itself
pub masked-IsMasked : (p : PrefixParts) → IsMasked p → masked p.address p.length ≡ p
masked-IsMasked p is =
    let same : p.address - 0 ≡ p.address = omega arith in
    rw (is.aligned, same)

-- the addresses of a shorter prefix are a multiple of those of a longer one
count_of-divides : (k l : ℕ) → k ≤ l → l ≤ 32 → count_of k ≡ count_of l * 2 ^ (l - k)
count_of-divides k l shorter short =
    let parts : 32 - k ≡ (32 - l) + (l - k) = omega arith in
    rw parts (pow-add 2 (32 - l) (l - k))

-- the last address of a prefix is below 2^32
pub last_fits : (p : PrefixParts) → IsMasked p → p.address + count_of p.length ≤ 2 ^ 32
last_fits p is =
    let whole : 2 ^ 32 ≡ count_of p.length * 2 ^ (p.length - 0) = count_of-divides 0 p.length
    (omega arith) is.short in
    let place : p.address ≡ count_of p.length * (p.address / count_of p.length) =
    multiple_of p.address (count_of p.length) is.aligned in
    omega (
      arith,
      next_multiple (count_of p.length) (p.address / count_of p.length)
          (2 ^ (p.length - 0)) (omega (arith, is.fits)),
    )

-- the span of a prefix is a span
pub IsSpan-prefix : (p : PrefixParts) → IsMasked p → IsSpan (span_of p)
IsSpan-prefix p is = record {
  ordered = omega (arith, count_of-positive p.length);
  fits = omega (arith, count_of-positive p.length, last_fits p is);
}

-- The same in plain numbers: p has d times the c addresses of q and starts at the i-th such place,
-- q at the j-th.
nested_from : (c d i j : ℕ) → c * j ≤ c * d * i + (c * d - 1) → c * d * i ≤ c * j + (c - 1) →
    0 < c → 0 < c * d → c * d * i ≤ c * j
nested_from c d i j ends starts one all =
    elim (cases_lt (c * j) (c * (d * i))) [
      | inl below ↦ absurd (omega (arith, next_multiple c j (d * i) below))
      | inr place ↦
          omega arith
    ]

nested_to : (c d i j : ℕ) → c * j ≤ c * d * i + (c * d - 1) → c * d * i ≤ c * j + (c - 1) → 0 < c →
    0 < c * d → c * j + (c - 1) ≤ c * d * i + (c * d - 1)
nested_to c d i j ends starts one all = omega (arith, next_multiple c j (d * i + d))

-- a shorter prefix that meets a longer one covers it
nested : (p q : PrefixParts) → IsMasked p → IsMasked q → p.length ≤ q.length →
    meets (span_of p) (span_of q) ≡ true → covers (span_of p) (span_of q) ≡ true
nested p q is_p is_q shorter meet =
    let c : ℕ = count_of q.length in
    let d : ℕ = 2 ^ (q.length - p.length) in
    let i : ℕ = p.address / count_of p.length in
    let j : ℕ = q.address / count_of q.length in
    let size : count_of p.length ≡ c * d = count_of-divides p.length q.length shorter is_q.short in
    let at_p : p.address ≡ count_of p.length * i = multiple_of p.address (count_of p.length)
    is_p.aligned in
    let at_q : q.address ≡ c * j = multiple_of q.address (count_of q.length) is_q.aligned in
    let place : p.address ≡ c * d * i = at_p ∙ ap (λ n. n * i) size in
    let some : 0 < c = count_of-positive q.length in
    let more : 0 < c * d = rw (← size) (count_of-positive p.length) in
    let starts : p.address ≤ q.address + (c - 1) = grind (arith, nat_tests) in
    let ends : q.address ≤ p.address + (count_of p.length - 1) = grind (arith, nat_tests) in
    let ends_in : c * j ≤ c * d * i + (c * d - 1) = rw (← place, ← at_q, ← size) ends in
    let starts_in : c * d * i ≤ c * j + (c - 1) = rw (← place, ← at_q) starts in
    let from : p.address ≤ q.address = rw (place, at_q) (nested_from c d i j ends_in starts_in some
    more) in
    let to : q.address + (c - 1) ≤ p.address + (count_of p.length - 1) =
    omega (arith, nested_to c d i j ends_in starts_in some more) in
    grind (arith, nat_tests)

-- where spans that meet are nested, they do not cross
uncrossed : (meet cover covered : Bool) → (meet ≡ true → (cover ≡ true) ⊎ (covered ≡ true)) →
    (meet && (not cover && not covered)) ≡ false
uncrossed false cover covered nest = refl
uncrossed true cover covered nest = elim (nest refl) [
  | inl up ↦ rw up refl
  | inr down ↦
      grind (arith, nat_tests)
]

-- two prefixes never cross
pub never_cross : (p q : PrefixParts) → IsMasked p → IsMasked q → crosses (span_of p) (span_of q)
    ≡ false
never_cross p q is_p is_q =
    uncrossed (meets (span_of p) (span_of q)) (covers (span_of p) (span_of q))
    (covers (span_of q) (span_of p)) (λ meet.
    elim (cases_lt q.length p.length) [
      | inl longer ↦
          let back : meets (span_of q) (span_of p) ≡ true = grind (arith, nat_tests) in
          inr (nested q p is_q is_p (omega arith) back)
      | inr shorter ↦ inl (nested p q is_p is_q shorter meet)
    ])

-- a prefix is no longer than one that it covers
pub covers_longer : (p q : PrefixParts) → IsMasked p → IsMasked q → covers (span_of p) (span_of q)
    ≡ true → p.length ≤ q.length
covers_longer p q is_p is_q cover =
    elim (cases_lt q.length p.length) [
      | inl longer ↦
          let fewer : count_of p.length < count_of q.length = pow_below (32 - p.length)
          (32 - q.length) (omega (arith, is_p.short)) in
          let starts : p.address ≤ q.address = grind (arith, nat_tests) in
          let ends : q.address + (count_of q.length - 1) ≤ p.address + (count_of p.length - 1) =
          grind (arith, nat_tests) in
          absurd (omega (arith, fewer, starts, ends, count_of-positive p.length))
      | inr shorter ↦ shorter
    ]

-- the prefix of these parts
abbrev parts : ℕ → ℕ → PrefixParts
parts address length = record { address = address; length = length }

-- two prefixes of one address and one length are one
same_parts : (p q : PrefixParts) → p.address ≡ q.address → p.length ≡ q.length → p ≡ q
same_parts p q one_address one_length =
    ap (λ address. parts address p.length) one_address ∙ ap (parts q.address) one_length

-- only equal prefixes have the same addresses
pub spans_tell : (p q : PrefixParts) → IsMasked p → IsMasked q → span_of p ≡ span_of q → p ≡ q
spans_tell p q is_p is_q same =
    let one_address : p.address ≡ q.address = ap (λ (s : Ends). s.first) same in
    let one_last : p.address + (count_of p.length - 1) ≡ q.address + (count_of q.length - 1) =
    ap (λ (s : Ends). s.last) same in
    let up : covers (span_of p) (span_of q) ≡ true = grind (arith, nat_tests) in
    let down : covers (span_of q) (span_of p) ≡ true = grind (arith, nat_tests) in
    same_parts p q one_address
    (omega (arith, covers_longer p q is_p is_q up, covers_longer q p is_q is_p down))

-- only equal prefixes cover each other
pub cover_each_other : (p q : PrefixParts) → IsMasked p → IsMasked q →
    covers (span_of p) (span_of q) ≡ true → covers (span_of q) (span_of p) ≡ true → p ≡ q
cover_each_other p q is_p is_q up down =
    let one_address : p.address ≡ q.address = grind (arith, nat_tests) in
    same_parts p q one_address
    (omega (arith, covers_longer p q is_p is_q up, covers_longer q p is_q is_p down))
