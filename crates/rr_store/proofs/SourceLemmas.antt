-- The source that an object names, in whose registry it is read.
use Rattle.std.proofs.Common.{◌≡◌, ℕ, Bool, true, false, cond, Option, Some, None, Result, Ok, Err}
use Rattle.std.proofs.Common.{List, [], ◌∷◌, map, filter, refl, sym, ap, subst, ◌∙◌, arith}
use Rattle.std.specs.Prelude.{bytes_eq, is_none, is_some}
use Rattle.std.specs.List.{find, list_any}
use Rattle.std.specs.Option.{option_and_then, option_map_or}
use Rattle.std.proofs.lemmas.Bool.{or_parts}
use Rattle.std.proofs.lemmas.Bool.Decides.{nat_tests}
use Rattle.rr_number.specs.Names.{name_of}
use Rattle.rr_text.specs.Fields.{Field, has_name}
use Rattle.rr_text.specs.Meanings.{value_meaning}
use Rattle.rr_object.specs.declared.object_fault.ObjectFault.{ObjectFault}
use Rattle.rr_object.specs.declared.object_fault.ObjectFault.TheVariants.{BadCount, BadValue}
use Rattle.rr_object.specs.declared.kind.Kind.TheVariants.{Source}
use Rattle.rr_object.specs.Items.{only}
use Rattle.rr_object.specs.Keys.{class_of}
use Rattle.rr_object.specs.Kinds.{kind_name}
use Rattle.rr_object.specs.Objects.{Obj}
use Rattle.rr_object.specs.Readings.{ReadsAs, has_bad_text, is_from, is_miscounted}
use Rattle.rr_object.specs.Readings.{is_pseudo_attribute, obj_of, object_of, source_of}
use Rattle.rr_object.proofs.Parsed.{bad_text, kept_its_key, miscounted}
use Rattle.rr_store.specs.Maps.{IsObject}
use Rattle.rr_store.specs.ReadingParts.{first_source}

same_text : (text : List ℕ) → bytes_eq text text ≡ true
same_text [] = refl
same_text (b ∷ bs) = rw (same_text bs) (grind (arith, nat_tests))

-- where one attribute alone has a name, it is the first
abbrev meaning : Field → List ℕ
meaning field = value_meaning field.lines

first_of : (field : Field) (fields : List Field) (source : List ℕ) → option_and_then name_of
    (only (map meaning (field ∷ fields))) ≡ Some source → name_of (meaning field) ≡ Some source
first_of field [] source e = e
first_of field (other ∷ others) source e = cc

module _ (test : Field → Bool) (source : List ℕ) where
  abbrev IsAlone : List Field → Type 0
  IsAlone fields = option_and_then name_of (only (map meaning fields)) ≡ Some source

  abbrev IsFirst : Option Field → Type 0
  IsFirst field = option_and_then (λ f. name_of (value_meaning f.lines)) field ≡ Some source

  first_tested : (field : Field) (fields : List Field) (b : Bool) →
      (IsAlone (filter test fields) → IsFirst (find test fields)) →
      IsAlone (cond b (field ∷ filter test fields) (filter test fields))
      → IsFirst (cond b (Some field) (find test fields))
  first_tested field fields true rest e = first_of field (filter test fields) source e
  first_tested field fields false rest e = rest e

  first_alone : (fields : List Field) → IsAlone (filter test fields) → IsFirst (find test fields)
  first_alone [] e = e
  first_alone (field ∷ fields) e = first_tested field fields (test field) (first_alone fields) e

first_named : (fields : List Field) (source : List ℕ) → source_of fields ≡ Some source →
    first_source fields ≡ Some source
first_named fields source e = first_alone (has_name (kind_name Source)) source fields e

-- an object names a source
unspoiled : (fields : List Field) (object : Obj) (count bad : Bool) →
    is_miscounted (class_of object.key) fields ≡ count → has_bad_text fields ≡ bad → obj_of fields
    ≡ Ok object → bad ≡ false
unspoiled fields object true bad of_count of_text read =
    let both : ◌≡◌ {A = Result Obj ObjectFault} (Ok object) (Err BadCount) = sym read ∙ miscounted
    fields object.key (kept_its_key fields object read) of_count in
    cc
unspoiled fields object false true of_count of_text read =
    let both : ◌≡◌ {A = Result Obj ObjectFault} (Ok object) (Err BadValue) = sym read ∙ bad_text
    fields object.key (kept_its_key fields object read) of_count of_text in
    cc
unspoiled fields object false false of_count of_text read = refl

some_of : {X : Type 0} (o : Option X) → is_none o ≡ false → (x : X) × (o ≡ Some x)
some_of None e = absurd (cc)
some_of (Some x) e = (x, refl)

spoken : (fields : List Field) → has_bad_text fields ≡ false → is_none (source_of fields) ≡ false
unfolding has_bad_text
spoken fields good = (or_parts (list_any is_pseudo_attribute fields) (is_none (source_of fields))
    good).1

own_source : (fields : List Field) (object : Obj) → obj_of fields ≡ Ok object → (source : List ℕ)
    × (source_of fields ≡ Some source)
own_source fields object read = some_of (source_of fields)
    (spoken fields (unspoiled fields object _ _ refl refl read))

from_own : (named : Option (List ℕ)) (source : List ℕ) → named ≡ Some source →
    option_map_or (λ name. bytes_eq name source) named false ≡ true
from_own named source e = ap (λ o. option_map_or (λ name. bytes_eq name source) o false) e
    ∙ same_text source

read_from : (fields : List Field) (source : List ℕ) (object : Obj) → obj_of fields ≡ Ok object →
    is_from source fields ≡ true → object_of fields source ≡ Ok object
unfolding object_of
read_from fields source object read from = rw (read, from) refl

pub some_is_none : {X : Type 0} (x : X) → ◌≡◌ {A = Option X} (Some x) None → ⊥
some_is_none x e = cc

pub some_never : {X : Type 0} (o : Option X) → o ≡ None → is_some o ≡ true → ⊥
some_never None e some = cc
some_never (Some x) e some = some_is_none x e

told_once : (a b : List ℕ) → ◌≡◌ {A = Option (List ℕ)} (Some a) (Some b) → a ≡ b
told_once a b e = cc

-- an object is read in the registry of the source that it names first
pub read_own : (source : List ℕ) (fields : List Field) (object : Obj) → IsObject object →
    fields ≡ object.paragraph → Some source ≡ first_source fields → ReadsAs source fields object
read_own source fields object is same first =
    let read : obj_of fields ≡ Ok object = ap obj_of same ∙ is.read in
    let own = own_source fields object read in
    let one : own.0 ≡ source = told_once own.0 source (sym (first_named fields own.0 own.1)
    ∙ sym first) in
    subst (λ s. ReadsAs s fields object) one
    (read_from fields own.0 object read (from_own (source_of fields) own.0 own.1))

-- and it names one
pub names_one : (fields : List Field) (object : Obj) → IsObject object → fields ≡ object.paragraph
    → None ≡ first_source fields → ⊥
names_one fields object is same none =
    let read : obj_of fields ≡ Ok object = ap obj_of same ∙ is.read in
    let own = own_source fields object read in
    let both : ◌≡◌ {A = Option (List ℕ)} None (Some own.0) = none ∙ first_named fields own.0
    own.1 in
    cc
