-- What rows of objects show, for what is told of a database that is refused (profile).
use Rattle.std.specs.Prelude.{◌≡◌, ◌+◌, ◌-◌, ◌<◌, ◌⊎◌, ◌==◌, ℕ, zero, suc, List, [], ◌∷◌, length}
use Rattle.std.specs.Prelude.{Option, None, Err, slice_get, if◌then◌else◌}
use Rattle.sqlite_value.specs.Order.{Row, column}
use Rattle.sqlite_value.specs.declared.value.Value.TheVariants.{Blob}
use Rattle.rr_text.specs.CanonicalText.{canonical}
use Rattle.rr_text.specs.Fields.{Field}
use Rattle.rr_object.specs.Readings.{object_of}
use Rattle.rr_object.specs.declared.object_fault.ObjectFault.TheVariants.{OtherSource}

-- the row of a number, from 1 (profile)
abbrev pub row_numbered : List Row → ℕ → Option Row
row_numbered rows number = if number == 0 then None else slice_get rows (number - 1)

-- a text is that of an object in a registry of another source (RFC 2622, 2; profile)
pub record IsTextOfOther (source text : List ℕ) : Type 0 where
  pub fields : List Field
  pub is_text : canonical fields ≡ text
  pub other : object_of fields source ≡ Err OtherSource

-- a row of `object` has the text of an object of another source (profile)
pub record IsOfOtherSource (source : List ℕ) (row : Row) : Type 0 where
  pub text : List ℕ
  pub stands : column row 2 ≡ Blob text
  pub other : IsTextOfOther source text

-- so many of these rows, and maybe more, have objects of another source (profile)
abbrev pub AreOfOther : List ℕ → ℕ → List Row → Type 0
AreOfOther source zero rows = Unit {0}
AreOfOther source (suc count) [] = ⊥
AreOfOther source (suc count) (row ∷ rows) =
    (IsOfOtherSource source row × AreOfOther source count rows) ⊎ AreOfOther source (suc count) rows

-- more than half of these rows have objects of another source (profile)
pub record AreMostlyOfOther (source : List ℕ) (rows : List Row) : Type 0 where
  pub count : ℕ
  pub others : AreOfOther source count rows
  pub most : length rows < count + count
