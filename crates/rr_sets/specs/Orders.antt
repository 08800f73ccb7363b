-- The orders of sets, prefixes and ranges tell them apart, and each operator but `Plain` looks at
-- the least length of a range alone. These are proofs; they stand here because ghost items of src,
-- by which the graph of route-sets promises this, name them.
use Rattle.std.proofs.Common.{◌≡◌, ℕ, ◌+◌, Bool, true, false, max, Option, None, Some, refl, sym}
use Rattle.std.proofs.Common.{ap, ◌∙◌}
use Rattle.std.specs.Option.{option_map}
use Rattle.std.specs.declared.cmp.Ordering.{Ordering}
use Rattle.std.specs.Ordering.{nat_cmp, ordering_then}
use Rattle.std.proofs.lemmas.Map.Lookups.{CmpEqualImpliesEq, exact_bytes, exact_pairs}
use Rattle.std.proofs.lemmas.Map.Lookups.{exact_unsigned}
use Rattle.rr_number.specs.Applied.{applied}
use Rattle.rr_number.specs.Bounds.{Bounds}
use Rattle.rr_number.specs.Operators.{kept, lengths_under}
use Rattle.rr_number.specs.Prefixes.{PrefixParts, prefix_cmp}
use Rattle.rr_number.specs.Ranges.{RangeParts, bounds_of, range_cmp, range_of}
use Rattle.rr_number.specs.declared.operator.Operator.{Operator}
use Rattle.rr_number.specs.declared.operator.Operator.TheVariants.{Lengths, Minus, Plain, Plus}
use Rattle.rr_object.specs.declared.member.MemberSet.TheVariants.{AutNum, Set}
use Rattle.rr_object.specs.contracts.member.MemberSetOrd.TheImpl as derived

-- Sets that compare as equal are the same set.
pub exact_member_sets : CmpEqualImpliesEq (derived.ghosts).cmp
exact_member_sets (AutNum n) (AutNum m) tie = ap AutNum (exact_unsigned n m tie)
exact_member_sets (AutNum n) (Set b) tie = cc
exact_member_sets (Set a) (AutNum m) tie = cc
exact_member_sets (Set a) (Set b) tie = ap Set (exact_bytes a b tie)

-- pairs of numbers are compared by the first, then by the second
abbrev pub numbers_cmp : ℕ × ℕ → ℕ × ℕ → Ordering
numbers_cmp x y = ordering_then (nat_cmp x.0 y.0) (nat_cmp x.1 y.1)

-- Pairs of numbers that compare as equal are the same.
exact_numbers : CmpEqualImpliesEq numbers_cmp
exact_numbers = exact_pairs nat_cmp nat_cmp exact_unsigned exact_unsigned

-- Prefixes that compare as equal are the same prefix.
pub exact_prefixes : CmpEqualImpliesEq prefix_cmp
exact_prefixes p q tie =
    let same : (p.address, p.length) ≡ (q.address, q.length) =
    exact_numbers (p.address, p.length) (q.address, q.length) tie in
    λ i. record { address = (same i).0; length = (same i).1 }

-- the numbers of a range, in the order in which they are compared
abbrev pub numbers_of : RangeParts → (ℕ × ℕ) × (ℕ × ℕ)
numbers_of r = ((r.prefix.address, r.prefix.length), (r.low, r.high))

-- Ranges that compare as equal are the same range.
pub exact_ranges : CmpEqualImpliesEq range_cmp
exact_ranges r s tie =
    let same : numbers_of r ≡ numbers_of s =
    exact_pairs numbers_cmp numbers_cmp exact_numbers exact_numbers (numbers_of r) (numbers_of s)
    tie in
    λ i. record {
      prefix = record { address = (same i).0.0; length = (same i).0.1 };
      low = (same i).1.0;
      high = (same i).1.1;
    }

-- the least length of a range
abbrev pub least_of : RangeParts → ℕ
least_of r = r.low

-- the prefix of a range
abbrev pub prefix_of : RangeParts → PrefixParts
prefix_of r = r.prefix

-- the operator is `Plain`, which is none
abbrev pub is_plain : Operator → Bool
is_plain Plain = true
is_plain Plus = false
is_plain Minus = false
is_plain (Lengths b) = false

-- Each operator but `Plain` looks at the least length alone.
under_least : (l : Operator) (v w : RangeParts) → is_plain l ≡ false → v.low ≡ w.low
    → lengths_under l (bounds_of v) ≡ lengths_under l (bounds_of w)
unfolding lengths_under
under_least Plain v w other same = cc
under_least Plus v w other same = ap (λ (n : ℕ). kept (record { low = n; high = 32 })) same
under_least Minus v w other same = ap (λ (n : ℕ). kept (record { low = n + 1; high = 32 })) same
under_least (Lengths b) v w other same =
    ap (λ (n : ℕ). kept (record { low = max b.low n; high = b.high })) same

-- ranges of a prefix are the same where their lengths are
same_lengths : (prefix : PrefixParts) (a b : Option Bounds)
    → option_map (range_of prefix) a ≡ option_map (range_of prefix) b → a ≡ b
same_lengths prefix None None is = refl
same_lengths prefix None (Some b) is = cc
same_lengths prefix (Some a) None is = cc
same_lengths prefix (Some a) (Some b) is = let same : range_of prefix a ≡ range_of prefix b =
    cc in ap (λ (r : RangeParts). Some (bounds_of r)) same

-- Two operators, neither of them `Plain`, that make the same of a range make the same of each range
-- of its least length.
pub applied_alike : (l m : Operator) (v w : RangeParts) → is_plain l ≡ false
    → is_plain m ≡ false → v.low ≡ w.low → applied l v ≡ applied m v → applied l w ≡ applied m w
unfolding applied
applied_alike l m v w l_other m_other same is =
    let under : lengths_under l (bounds_of v) ≡ lengths_under m (bounds_of v) =
    same_lengths v.prefix (lengths_under l (bounds_of v)) (lengths_under m (bounds_of v)) is in
    ap (option_map (range_of w.prefix)) (sym (under_least l v w l_other same) ∙ under
    ∙ under_least m v w m_other same)

-- An operator other than `Plain` that drops a range drops each range of its least length.
pub applied_dropped : (l : Operator) (v w : RangeParts) → is_plain l ≡ false → v.low ≡ w.low
    → applied l v ≡ None → applied l w ≡ None
unfolding applied
applied_dropped l v w other same none =
    let under : lengths_under l (bounds_of v) ≡ None =
    same_lengths v.prefix (lengths_under l (bounds_of v)) None none in
    ap (option_map (range_of w.prefix)) (sym (under_least l v w other same) ∙ under)

-- An operator other than `Plain` makes the same of all ranges of one prefix and least length.
pub applied_same : (l : Operator) (v w : RangeParts) → is_plain l ≡ false → v.low ≡ w.low
    → v.prefix ≡ w.prefix → applied l v ≡ applied l w
unfolding applied
applied_same l v w other same prefix =
    ap (λ (p : PrefixParts). option_map (range_of p) (lengths_under l (bounds_of v))) prefix
    ∙ ap (option_map (range_of w.prefix)) (under_least l v w other same)
