-- What the tests on spans mean for spans as sets of numbers, and how they fit together: laws of
-- `src/span/laws.rt`.
use Rattle.std.specs.Prelude.{◌≡◌, ℕ, true, false, ◌+◌, ◌<◌, ◌≤◌, ◌⊎◌}
use Rattle.std.specs.Prelude.{◌↔◌}
use Rattle.std.specs.Cmp.{IsTotalOrder}
use Rattle.std.specs.FinMap.{IsAntisymmetric}
use Rattle.rr_number.specs.Spans.{Ends, IsSpan, LiesIn, covers, meets, crosses, size, span_cmp}

-- A span covers another exactly where each number of the other lies in it.
abbrev pub CoveringIsInclusion : Type 0
CoveringIsInclusion =
    (s t : Ends) → IsSpan t → (covers s t ≡ true) ↔ ((n : ℕ) → LiesIn n t → LiesIn n s)

-- Two spans meet exactly where some number lies in both.
abbrev pub MeetingIsSharing : Type 0
MeetingIsSharing =
    (s t : Ends) → IsSpan s → IsSpan t
    → (meets s t ≡ true) ↔ ((n : ℕ) × (LiesIn n s × LiesIn n t))

-- Each span covers itself.
abbrev pub CoversItself : Type 0
CoversItself = (s : Ends) → covers s s ≡ true

-- What a covered span covers, its cover covers.
abbrev pub CoversFurther : Type 0
CoversFurther =
    (s t u : Ends) → covers s t ≡ true → covers t u ≡ true → covers s u ≡ true

-- Only equal spans cover each other.
abbrev pub CoversBothWays : Type 0
CoversBothWays = (s t : Ends) → covers s t ≡ true → covers t s ≡ true → s ≡ t

-- Crossing has no direction.
abbrev pub CrossesBothWays : Type 0
CrossesBothWays = (s t : Ends) → crosses s t ≡ crosses t s

-- Two spans that do not cross lie apart, or one covers the other.
abbrev pub ApartOrNested : Type 0
ApartOrNested =
    (s t : Ends) → crosses s t ≡ false
    → (meets s t ≡ false) ⊎ ((covers s t ≡ true) ⊎ (covers t s ≡ true))

-- A span is larger than each other span that it covers.
abbrev pub CoverIsLarger : Type 0
CoverIsLarger =
    (s t : Ends) → IsSpan t → covers s t ≡ true → (s ≡ t) ⊎ (size t < size s)

-- A span of one number has the size one.
abbrev pub OneNumber : Type 0
OneNumber = (n : ℕ) → size (record { first = n; last = n }) ≡ 1

-- A span that is cut in two has the sizes of its parts together: so the size counts numbers.
abbrev pub SizesAdd : Type 0
SizesAdd =
    (a b c : ℕ) → a ≤ b → b < c
    → size (record { first = a; last = c })
    ≡ size (record { first = a; last = b }) + size (record { first = b + 1; last = c })

-- The order of spans is total, and only equal spans tie.
pub record SpansAreOrdered : Type 0 where
  pub total : IsTotalOrder span_cmp
  pub exact : IsAntisymmetric span_cmp
