-- What is kept of spans that are gone over in their order, for private functions of src. No public
-- clause cites these.
use Rattle.std.specs.Prelude.{◌≡◌, ◌⊎◌, ℕ, ◌<◌, ◌≤◌, ◌-◌, Bool, true}
use Rattle.std.specs.Prelude.{false, IsTrue, List, [], ◌∷◌, ◌++◌, length, nat_lt, slice_get}
use Rattle.std.specs.Option.{option_map_or}
use Rattle.rr_number.specs.Spans.{Ends, crosses}
use Rattle.rr_object.specs.declared.key.Key.TheVariants.{AsBlock, Inetnum}
use Rattle.rr_object.specs.Objects.{Obj}
use Rattle.rr_auth.specs.Elements.{IsIn}
use Rattle.rr_registry.specs.declared.open_spans.OpenSpans.{OpenSpans}
use Rattle.rr_auth.specs.Registries.{is_crossed_by_some}
use Rattle.rr_registry.specs.Loading.{is_key_of_some}

-- No number of a list is above one before it.
abbrev pub NeverRises : List ℕ → Type 0
NeverRises [] = Unit {0}
NeverRises (x ∷ xs) = ((y : ℕ) → IsIn y xs → y ≤ x) × NeverRises xs

-- No number of a list is below one before it.
abbrev pub NeverFalls : List ℕ → Type 0
NeverFalls [] = Unit {0}
NeverFalls (x ∷ xs) = ((y : ℕ) → IsIn y xs → x ≤ y) × NeverFalls xs

-- The last of some numbers is below one.
abbrev pub ends_below : List ℕ → ℕ → Bool
ends_below lasts first =
    option_map_or (λ last. nat_lt last first) (slice_get lasts (length lasts - 1)) false

-- A list is what is left of another one after numbers at its end, all below a given one, were taken
-- away.
pub record IsShortened (first : ℕ) (whole left : List ℕ) : Type 0 where
  pub taken : List ℕ
  pub cut : whole ≡ left ++ taken
  pub below : (x : ℕ) → IsIn x taken → x < first

-- Of spans that are gone over, each ends below a number, or begins there and ends at one of a
-- level, or ends at one of the outer ones. Each number of the level ends a span that begins there.
-- The outer numbers never rise, the level's never fall, and none of the level is above an outer
-- one.
pub record AreKeptSpans (gone : Ends → Bool) (first : ℕ) (outer level : List ℕ) : Type 0 where
  pub falling : NeverRises outer
  pub rising : NeverFalls level
  pub within : (x y : ℕ) → IsIn x outer → IsIn y level → y ≤ x
  pub kept : (t : Ends) → gone t ≡ true
      → (t.last < first) ⊎ (((t.first ≡ first) × IsIn t.last level) ⊎ IsIn t.last outer)
  pub own : (y : ℕ) → IsIn y level
      → (t : Ends) × ((gone t ≡ true) × ((t.first ≡ first) × (t.last ≡ y)))

-- A number is not above the greatest at which a span that was gone over begins, and is 0 if none
-- was.
abbrev pub IsWithinFirsts : (Ends → Bool) → ℕ → Type 0
IsWithinFirsts gone first =
    (n : ℕ) → ((t : Ends) → gone t ≡ true → t.first ≤ n) → first ≤ n

-- Of the spans that are gone over, none begins after a span, or begins with it and ends after it.
abbrev pub ComesAfter : (Ends → Bool) → Ends → Type 0
ComesAfter gone s = (t : Ends) → gone t ≡ true
    → (t.first ≤ s.first) × (t.first ≡ s.first → t.last ≤ s.last)

-- Some spans are others with one more.
pub record IsJoined (gone : Ends → Bool) (s : Ends) (more : Ends → Bool) : Type 0 where
  pub each : (t : Ends) → more t ≡ true → (t ≡ s) ⊎ (gone t ≡ true)
  pub own : more s ≡ true
  pub old : (t : Ends) → gone t ≡ true → more t ≡ true

-- Open spans are what is kept of spans that were gone over, at a number that is not above the
-- greatest at which one of these begins.
pub record HasGoneOver (gone : Ends → Bool) (open_spans : OpenSpans) : Type 0 where
  pub kept : AreKeptSpans gone open_spans.first open_spans.outer.items open_spans.level.items
  pub within : IsWithinFirsts gone open_spans.first

-- Open spans are what is kept before any span was gone over.
abbrev pub HasGoneOverNone : OpenSpans → Type 0
HasGoneOverNone open_spans =
    (gone : Ends → Bool) → ((t : Ends) → gone t ≡ false) → HasGoneOver gone open_spans

-- A span crosses none of those that were gone over, and was gone over after them.
pub record GoesOver (gone : Ends → Bool) (s : Ends) (more : Ends → Bool)
    (now : OpenSpans) : Type 0 where
  pub free : (t : Ends) → gone t ≡ true → crosses t s ≡ false
  pub passed : HasGoneOver more now

-- The answer is true only if a span, which comes after those that were gone over, crosses none of
-- them; and then it was gone over after them.
abbrev pub MayGoOver : OpenSpans → Ends → OpenSpans → Bool → Type 0
MayGoOver old span new free =
    (gone more : Ends → Bool) → HasGoneOver gone old → ComesAfter gone span
    → IsJoined gone span more → IsTrue free → GoesOver gone span more new

-- The inetnums and the as-blocks of a list were gone over.
pub record AreGoneOver (os : List Obj) (inetnums blocks : OpenSpans) : Type 0 where
  pub inetnums_are : HasGoneOver (λ s. is_key_of_some (Inetnum s) os) inetnums
  pub blocks_are : HasGoneOver (λ s. is_key_of_some (AsBlock s) os) blocks

-- No object of a list crosses one, and this was gone over after them.
pub record IsGoneOver (os : List Obj) (o : Obj) (inetnums blocks : OpenSpans) : Type 0 where
  pub free : is_crossed_by_some o.key os ≡ false
  pub passed : AreGoneOver (os ++ o ∷ []) inetnums blocks
