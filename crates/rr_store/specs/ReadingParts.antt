-- What private functions that read the objects of rows promise each other. No public clause cites
-- these.
use Rattle.std.specs.Prelude.{◌≡◌, ℕ, List, [], ◌∷◌, Option, Some, ⊤, Bool, true}
use Rattle.std.specs.List.{find}
use Rattle.std.specs.Option.{option_and_then}
use Rattle.std.specs.declared.cmp.Ordering.{Ordering}
use Rattle.std.specs.Ordering.{is_lt}
use Rattle.sqlite_value.specs.Order.{Row}
use Rattle.rr_number.specs.Names.{name_of}
use Rattle.rr_text.specs.CanonicalText.{canonical}
use Rattle.rr_text.specs.Fields.{Field, has_name}
use Rattle.rr_text.specs.Meanings.{value_meaning}
use Rattle.rr_object.specs.Classes.{class_number}
use Rattle.rr_object.specs.declared.kind.Kind.TheVariants.{Source}
use Rattle.rr_object.specs.Kinds.{kind_name}
use Rattle.rr_object.specs.KeyOrders.{key_cmp}
use Rattle.rr_object.specs.Keys.{class_of}
use Rattle.rr_object.specs.Objects.{Obj}
use Rattle.rr_store.specs.Contents.{object_values}
use Rattle.rr_store.specs.Maps.{IsObjectOf, KeyForm}
use Rattle.rr_store.specs.Opening.{IfStore}
use Rattle.rr_store.specs.declared.store_fault.OpenFault.{OpenFault}
use Rattle.rr_store.specs.declared.store_fault.OpenFault.TheVariants.{WrongVersion}

-- the source that the first attribute `source` names, which in an object is the only one
abbrev pub first_source : List Field → Option (List ℕ)
first_source fields = option_and_then (λ field. name_of (value_meaning field.lines))
    (find (has_name (kind_name Source)) fields)

-- a row is that of an object, whose key has a text in this form
pub record IsRowOf (form : KeyForm) (object : Obj) (row : Row) : Type 0 where
  pub key : List ℕ
  pub formed : form object.key ≡ Some key
  pub is : row
      ≡ object_values (class_number (class_of object.key)) key (canonical object.paragraph)

-- rows are those of objects of a source, in turn
abbrev pub AreRead : KeyForm → List ℕ → List Row → List Obj → Type 0
AreRead form source [] [] = ⊤
AreRead form source (row ∷ rows) [] = ⊥
AreRead form source [] (object ∷ objects) = ⊥
AreRead form source (row ∷ rows) (object ∷ objects) =
    (IsObjectOf source object × IsRowOf form object row) × AreRead form source rows objects

-- rows are those of no objects of a source
abbrev pub AreNone : KeyForm → List ℕ → List Row → Type 0
AreNone form source rows = (objects : List Obj) → AreRead form source rows objects → ⊥

-- the fault tells of no other version
abbrev pub TellsNoVersion : OpenFault → Type 0
TellsNoVersion = λ fault. (number : ℕ) → fault ≡ WrongVersion number → ⊥

-- the fault is a bad row or lack of memory
pub record IsRowFault (fault : OpenFault) : Type 0 where
  pub no_other : TellsNoVersion fault
  pub no_store : IfStore (λ _. ⊥) fault

-- objects in the order of their keys
abbrev pub by_key : Obj → Obj → Ordering
by_key a b = key_cmp a.key b.key

-- the key of an object is below that of the first of others, if there is one
abbrev pub is_below : Obj → List Obj → Bool
is_below object [] = true
is_below object (other ∷ others) = is_lt (key_cmp object.key other.key)
