-- How spans lie in the halves of prefixes.
use Rattle.std.proofs.Common.{◌≡◌, ◌≤◌, Bool, true, false, arith}
use Rattle.std.proofs.lemmas.Bool.Decides.{nat_tests}
use Rattle.rr_number.specs.Prefixes.{PrefixParts, span_of}
use Rattle.rr_number.specs.Spans.{Ends, covers, size}
use Rattle.rr_number.proofs.PrefixSpans.{count_of-positive}
use Rattle.rr_cover.specs.PrefixTrees.{in_upper, lies_on}

pub ends_ordered : (p : PrefixParts) → (span_of p).first ≤ (span_of p).last
ends_ordered p = omega arith

-- what lies in a half of a prefix, lies where that prefix lies
pub lies_further : (p q : PrefixParts) (side other : Bool) (s : Ends) → lies_on p side (span_of q)
    ≡ true → lies_on q other s ≡ true → lies_on p side s ≡ true
lies_further p q false false s outer inner = let some = count_of-positive q.length in
    grind (arith, nat_tests)
lies_further p q false true s outer inner = let some = count_of-positive q.length in
    grind (arith, nat_tests)
lies_further p q true false s outer inner = let some = count_of-positive q.length in
    grind (arith, nat_tests)
lies_further p q true true s outer inner = let some = count_of-positive q.length in
    grind (arith, nat_tests)

-- a prefix covers what lies in its halves
pub covers_half : (p : PrefixParts) (side : Bool) (s : Ends) → lies_on p side s ≡ true →
    covers (span_of p) s ≡ true
covers_half p false s lies = let some = count_of-positive p.length in grind (arith, nat_tests)
covers_half p true s lies = let some = count_of-positive p.length in grind (arith, nat_tests)

-- and is larger
pub larger_than_half : (p : PrefixParts) (side : Bool) (s : Ends) → lies_on p side s ≡ true →
    size s ≤ size (span_of p)
larger_than_half p false s lies = let some = count_of-positive p.length in grind (arith, nat_tests)
larger_than_half p true s lies = let some = count_of-positive p.length in grind (arith, nat_tests)

-- no prefix lies in a half of its own
pub not_in_itself : (p : PrefixParts) (side : Bool) → lies_on p side (span_of p) ≡ false
not_in_itself p false = let some = count_of-positive p.length in grind (arith, nat_tests)
not_in_itself p true = let some = count_of-positive p.length in grind (arith, nat_tests)

-- what lies in the lower half covers nothing in the upper one
pub low_over : (p : PrefixParts) (s u : Ends) → s.first ≤ s.last → lies_on p false u ≡ true →
    covers u s ≡ true → in_upper p s ≡ false
low_over p s u some lies over = grind (arith, nat_tests)

-- what lies in the upper half covers nothing outside it
pub high_over : (p : PrefixParts) (s u : Ends) → lies_on p true u ≡ true → covers u s ≡ true →
    s.first ≤ s.last → in_upper p s ≡ true
high_over p s u lies over some = grind (arith, nat_tests)

-- the halves have nothing in common
pub halves_apart : (p : PrefixParts) (s : Ends) → s.first ≤ s.last → lies_on p false s ≡ true →
    lies_on p true s ≡ true → ⊥
halves_apart p s some low high = grind (arith, nat_tests)

pub covers_itself : (s : Ends) → covers s s ≡ true
covers_itself s = grind (arith, nat_tests)

pub covers_further : (s t u : Ends) → covers s t ≡ true → covers t u ≡ true → covers s u ≡ true
covers_further s t u first second = grind (arith, nat_tests)
