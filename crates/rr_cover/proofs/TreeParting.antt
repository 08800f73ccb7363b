-- Halves of prefixes as prefixes, and the prefix at which two others part.
use Rattle.std.proofs.Common.{◌≡◌, ℕ, ◌+◌, ◌-◌, ◌*◌, ◌/◌, ◌%◌, ◌^◌, ◌<◌, ◌≤◌, Bool, true, false}
use Rattle.std.proofs.Common.{not, refl, sym, ap, ◌∙◌, inl, inr, arith}
use Rattle.std.proofs.Math.Nat.{mul-mod_right}
use Rattle.std.proofs.lemmas.Nat.{pow-add}
use Rattle.std.proofs.lemmas.Bool.{cases_lt}
use Rattle.std.proofs.lemmas.Bool.Decides.{nat_tests}
use Rattle.rr_number.specs.Prefixes.{PrefixParts, IsMasked, masked, count_of, span_of}
use Rattle.rr_number.specs.Spans.{Ends, covers, meets, crosses}
use Rattle.rr_number.proofs.Multiples.{multiple_of}
use Rattle.rr_number.proofs.PrefixSpans.{count_of-positive, IsMasked-masked, last_fits, never_cross}
use Rattle.rr_number.proofs.PrefixSpans.{covers_longer}
use Rattle.rr_cover.specs.PrefixTrees.{lies_on}
use Rattle.rr_cover.specs.TreeParts.{IsParting}
use Rattle.rr_cover.proofs.Ties.{contradicted}
use Rattle.rr_cover.proofs.TreeHalves.{ends_ordered, covers_half, halves_apart, covers_further}

count_halves : (l : ℕ) → l < 32 → count_of l ≡ count_of (l + 1) * 2
count_halves l short =
    let parts : 32 - l ≡ (32 - (l + 1)) + 1 = omega arith in
    rw parts (pow-add 2 (32 - (l + 1)) 1)

-- a half of a prefix is a prefix
abbrev half_at : PrefixParts → Bool → PrefixParts
half_at p false = record { address = p.address; length = p.length + 1 }
half_at p true = record { address = p.address + count_of (p.length + 1); length = p.length + 1 }

half_place : (p : PrefixParts) → IsMasked p → p.length < 32 → p.address ≡ count_of (p.length + 1) *
    (2 * (p.address / count_of p.length))
half_place p is short =
    let c : ℕ = count_of (p.length + 1) in
    let i : ℕ = p.address / count_of p.length in
    let at : p.address ≡ count_of p.length * i = multiple_of p.address (count_of p.length)
    is.aligned in
    let moved : c * 2 * i ≡ c * (2 * i) = omega arith in
    at ∙ ap (λ n. n * i) (count_halves p.length short) ∙ moved

masked_half : (p : PrefixParts) → IsMasked p → p.length < 32 → (side : Bool) →
    IsMasked (half_at p side)
masked_half p is short false = record {
  short = omega arith;
  fits = is.fits;
  aligned = ap (λ n. n % count_of (p.length + 1)) (half_place p is short) ∙ mul-mod_right
      (count_of (p.length + 1)) (2 * (p.address / count_of p.length));
}
masked_half p is short true =
    let c : ℕ = count_of (p.length + 1) in
    let i : ℕ = p.address / count_of p.length in
    let next : p.address + c ≡ c * (2 * i + 1) = omega (arith, half_place p is short) in
    record {
      short = omega arith;
      fits = omega (
        arith,
        last_fits p is,
        count_halves p.length short,
        count_of-positive (p.length + 1),
      );
      aligned = ap (λ n. n % c) next ∙ mul-mod_right c (2 * i + 1);
    }

half_lies : (p : PrefixParts) → p.length < 32 → (side : Bool) (s : Ends) → lies_on p side s
    ≡ covers (span_of (half_at p side)) s
half_lies p short false s =
    let whole = count_halves p.length short in
    let some = count_of-positive (p.length + 1) in
    grind (arith, nat_tests)
half_lies p short true s =
    let whole = count_halves p.length short in
    let some = count_of-positive (p.length + 1) in
    grind (arith, nat_tests)

nested_in : (h q : Ends) → crosses h q ≡ false → meets h q ≡ true → covers q h ≡ false → covers h q
    ≡ true
nested_in h q apart meet short = grind (arith, nat_tests)

meets_over : (h r a : Ends) → a.first ≤ a.last → covers h a ≡ true → covers r a ≡ true →
    meets h r ≡ true
meets_over h r a some one other = grind (arith, nat_tests)

-- equally long prefixes of which one covers the other are one
same_length : (p q : PrefixParts) → covers (span_of p) (span_of q) ≡ true → p.length ≡ q.length →
    p ≡ q
same_length p q over same =
    let counts : count_of p.length ≡ count_of q.length = ap count_of same in
    let some = count_of-positive p.length in
    let address : p.address ≡ q.address = grind (arith, nat_tests) in
    λ i. record { address = address i; length = same i }

covers_same : (p q : PrefixParts) → p ≡ q → covers (span_of p) (span_of q) ≡ true
covers_same p q same = ap (λ r. covers (span_of r) (span_of q)) same ∙ itself (span_of q)
  where
    itself : (s : Ends) → covers s s ≡ true
    itself s = grind (arith, nat_tests)

-- a prefix that is covered by a shorter one lies in a half of it
pub splits : (p q : PrefixParts) → IsMasked p → IsMasked q → covers (span_of p) (span_of q)
    ≡ true → p.length < q.length → lies_on p true (span_of q) ≡ false → lies_on p false (span_of q)
    ≡ true
splits p q is_p is_q over longer apart =
    half_lies p short false (span_of q) ∙ case (covers (span_of q) (span_of h)) refl
  where
    short : p.length < 32
    short = let most = is_q.short in omega arith

    h : PrefixParts
    h = half_at p false

    meet : meets (span_of h) (span_of q) ≡ true
    meet =
        let whole = count_halves p.length short in
        let some = count_of-positive (p.length + 1) in
        grind (arith, nat_tests)

    case : (b : Bool) → covers (span_of q) (span_of h) ≡ b → covers (span_of h) (span_of q) ≡ true
    case false is = nested_in (span_of h) (span_of q)
        (never_cross h q (masked_half p is_p short false) is_q) meet is
    case true is =
        let least = covers_longer q h is_q (masked_half p is_p short false) is in
        let same : q.length ≡ p.length + 1 = omega (arith, least, longer) in
        covers_same h q (sym (same_length q h is same))

-- which half it is
pub record Half (p : PrefixParts) (s : Ends) : Type 0 where
  pub side : Bool
  pub lies : lies_on p side s ≡ true

pub half_of : (p q : PrefixParts) → IsMasked p → IsMasked q → covers (span_of p) (span_of q)
    ≡ true → p.length < q.length → Half p (span_of q)
half_of p q is_p is_q over longer = case (lies_on p true (span_of q)) refl
  where
    case : (b : Bool) → lies_on p true (span_of q) ≡ b → Half p (span_of q)
    case true is = record { side = true; lies = is }
    case false is = record { side = false; lies = splits p q is_p is_q over longer is }

-- a prefix that covers another one is shorter
pub strictly : (p q : PrefixParts) → IsMasked p → IsMasked q → covers (span_of p) (span_of q)
    ≡ true → (p ≡ q → ⊥) → p.length < q.length
strictly p q is_p is_q over other =
    elim (cases_lt p.length q.length) [
      | inl shorter ↦ shorter
      | inr longer ↦
          let least = covers_longer p q is_p is_q over in
          let same : p.length ≡ q.length = omega (arith, least, longer) in
          absurd (other (same_length p q over same))
    ]

pub lies_covered : (p : PrefixParts) (side : Bool) (s t : Ends) → lies_on p side s ≡ true →
    covers s t ≡ true → lies_on p side t ≡ true
lies_covered p false s t lies over = grind (arith, nat_tests)
lies_covered p true s t lies over = grind (arith, nat_tests)

short_of : (p : PrefixParts) (side : Bool) (s : Ends) → IsMasked p → s.first ≤ s.last →
    lies_on p side s ≡ true → p.length < 32
short_of p side s is some lies =
    elim (cases_lt p.length 32) [
      | inl short ↦ short
      | inr long ↦
          let most = is.short in
          let all : p.length ≡ 32 = omega arith in
          let one : count_of p.length ≡ 1 = ap count_of all in
          absurd (never side one lies)
    ]
  where
    never : (side : Bool) → count_of p.length ≡ 1 → lies_on p side s ≡ true → ⊥
    never false one lies = grind (arith, nat_tests)
    never true one lies = grind (arith, nat_tests)

-- where two prefixes part lies in the half in which both lie
pub parting_lies : (p r a b : PrefixParts) (side : Bool) → IsMasked p → IsParting r a b →
    lies_on p side (span_of a) ≡ true → lies_on p side (span_of b) ≡ true →
    lies_on p side (span_of r) ≡ true
parting_lies p r a b side is_p parting on_a on_b =
    half_lies p short side (span_of r) ∙ case (covers (span_of r) (span_of h)) refl
  where
    short : p.length < 32
    short = short_of p side (span_of a) is_p (ends_ordered a) on_a

    h : PrefixParts
    h = half_at p side

    is_h : IsMasked h
    is_h = masked_half p is_p short side

    over_a : covers (span_of h) (span_of a) ≡ true
    over_a = sym (half_lies p short side (span_of a)) ∙ on_a

    over_b : covers (span_of h) (span_of b) ≡ true
    over_b = sym (half_lies p short side (span_of b)) ∙ on_b

    both : (s t : Bool) → lies_on r s (span_of a) ≡ true → lies_on r (not s) (span_of b) ≡ true →
        lies_on r t (span_of a) ≡ true → lies_on r t (span_of b) ≡ true → ⊥
    both false false one other in_a in_b = halves_apart r (span_of b) (ends_ordered b) in_b other
    both false true one other in_a in_b = halves_apart r (span_of a) (ends_ordered a) one in_a
    both true false one other in_a in_b = halves_apart r (span_of a) (ends_ordered a) in_a one
    both true true one other in_a in_b = halves_apart r (span_of b) (ends_ordered b) other in_b

    case : (c : Bool) → covers (span_of r) (span_of h) ≡ c → covers (span_of h) (span_of r) ≡ true
    case false is =
        nested_in (span_of h) (span_of r) (never_cross h r is_h parting.masked)
        (meets_over (span_of h) (span_of r) (span_of a) (ends_ordered a) over_a
        (covers_half r parting.side (span_of a) parting.one)) is
    case true is =
        elim (cases_lt r.length h.length) [
          | inl shorter ↦
              let there = half_of r h parting.masked is_h is shorter in
              absurd (both parting.side there.side parting.one parting.other
              (lies_covered r there.side (span_of h) (span_of a) there.lies over_a)
              (lies_covered r there.side (span_of h) (span_of b) there.lies over_b))
          | inr longer ↦
              let least = covers_longer r h parting.masked is_h is in
              let same : r.length ≡ h.length = omega (arith, least, longer) in
              covers_same h r (sym (same_length r h is same))
        ]

-- a prefix that does not cover another one is longer than no bit
pub some_bits : (p q : PrefixParts) → IsMasked p → IsMasked q → covers (span_of p) (span_of q)
    ≡ false → 0 < p.length
some_bits p q is_p is_q short =
    elim (cases_lt 0 p.length) [
      | inl some ↦ some
      | inr none ↦
          let all : p.length ≡ 0 = omega arith in
          let whole : count_of p.length ≡ 2 ^ 32 = ap count_of all in
          let fits_p = last_fits p is_p in
          let fits_q = last_fits q is_q in
          let some = count_of-positive q.length in
          absurd (contradicted _ short (grind (arith, nat_tests)))
    ]

-- the prefix that is a bit shorter
abbrev pub shortened : PrefixParts → PrefixParts
shortened p = masked p.address (p.length - 1)

pub masked_shortened : (p : PrefixParts) → IsMasked p → IsMasked (shortened p)
masked_shortened p is = let most = is.short in IsMasked-masked p.address (p.length - 1) is.fits
    (omega arith)

pub shortened_covers : (p : PrefixParts) → IsMasked p → 0 < p.length →
    covers (span_of (shortened p)) (span_of p) ≡ true
shortened_covers p is some = case (covers (span_of p) (span_of (shortened p))) refl
  where
    is_next : IsMasked (shortened p)
    is_next = masked_shortened p is

    meet : meets (span_of (shortened p)) (span_of p) ≡ true
    meet = remainder p.address (p.address % count_of (p.length - 1)) (count_of (p.length - 1))
        (count_of p.length) (below p.address (count_of (p.length - 1))
        (count_of-positive (p.length - 1)))
      where
        below : (n m : ℕ) → 0 < m → n % m < m
        below n m some = omega arith

        remainder : (n r m c : ℕ) → r < m →
            meets (record { first = n - r; last = n - r + (m - 1) })
            (record { first = n; last = n + (c - 1) }) ≡ true
        remainder n r m c less = grind (arith, nat_tests)

    case : (b : Bool) → covers (span_of p) (span_of (shortened p)) ≡ b →
        covers (span_of (shortened p)) (span_of p) ≡ true
    case false is_short = nested_in (span_of (shortened p)) (span_of p)
        (never_cross (shortened p) p is_next is) meet is_short
    case true over = let least = covers_longer p (shortened p) is is_next over in
        absurd (omega (arith, least, some))

-- where a prefix is first shortened so far that it covers another one, the two part
pub parted : (c a b : PrefixParts) → IsMasked c → IsMasked b → covers (span_of c) (span_of a)
    ≡ true → covers (span_of c) (span_of b) ≡ false → covers (span_of b) (span_of a) ≡ false →
    covers (span_of (shortened c)) (span_of b) ≡ true → IsParting (shortened c) a b
parted c a b is_c is_b over_a not_b apart over_b =
    from (half_of n c is_n is_c (shortened_covers c is_c some) (omega (arith, some)))
  where
    some : 0 < c.length
    some = some_bits c b is_c is_b not_b

    n : PrefixParts
    n = shortened c

    is_n : IsMasked n
    is_n = masked_shortened c is_c

    b_longer : n.length < b.length
    b_longer = strictly n b is_n is_b over_b
        (λ same. contradicted _ apart (covers_further (span_of b) (span_of c) (span_of a)
        (ap (λ r. covers (span_of r) (span_of c)) (sym same) ∙ shortened_covers c is_c some)
        over_a))

    short : n.length < 32
    short = let most = is_c.short in omega (arith, some)

    -- the half in which the longer one lies has its addresses alone
    whole_half : (side : Bool) → lies_on n side (span_of c) ≡ true → half_at n side ≡ c
    whole_half side lies =
        let length : (half_at n side).length ≡ c.length = one_more side in
        same_length (half_at n side) c (sym (half_lies n short side (span_of c)) ∙ lies) length
      where
        one_more : (t : Bool) → (half_at n t).length ≡ c.length
        one_more false = omega (arith, some)
        one_more true = omega (arith, some)

    not_there : (side : Bool) → lies_on n side (span_of c) ≡ true → lies_on n side (span_of b)
        ≡ true → ⊥
    not_there side lies other = contradicted _ not_b (ap (λ r. covers (span_of r) (span_of b))
        (sym (whole_half side lies)) ∙ sym (half_lies n short side (span_of b)) ∙ other)

    across : (side : Bool) → lies_on n side (span_of c) ≡ true → (t : Bool) →
        lies_on n t (span_of b) ≡ true → lies_on n (not side) (span_of b) ≡ true
    across false lies false there = absurd (not_there false lies there)
    across false lies true there = there
    across true lies false there = there
    across true lies true there = absurd (not_there true lies there)

    from : Half n (span_of c) → IsParting n a b
    from there =
        let other = half_of n b is_n is_b over_b b_longer in
        record {
          side = there.side;
          masked = is_n;
          one = lies_covered n there.side (span_of c) (span_of a) there.lies over_a;
          other = across there.side there.lies other.side other.lies;
        }
