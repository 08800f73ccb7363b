-- A paragraph is refused for its first fault.
use Rattle.std.proofs.Common.{◌≡◌, ℕ, List, [], ◌∷◌, Option, Some, None, Ok, Err, Bool, true, false}
use Rattle.std.proofs.Common.{not, refl, if◌then◌else◌}
use Rattle.std.specs.Option.{option_map, option_and_then}
use Rattle.std.specs.Result.{result_err}
use Rattle.rr_text.specs.Fields.{Field}
use Rattle.rr_text.specs.Meanings.{value_meaning}
use Rattle.rr_number.specs.AsNumbers.{as_number_of}
use Rattle.rr_number.specs.AsSpans.{as_span_of}
use Rattle.rr_number.specs.Names.{maintainer_name_of}
use Rattle.rr_number.specs.Prefixes.{PrefixParts, prefix_of}
use Rattle.rr_number.specs.SpanTexts.{spelled_span}
use Rattle.rr_object.specs.declared.class.Class.{Class}
use Rattle.rr_object.specs.declared.class.Class.TheVariants as class
use Rattle.rr_object.specs.declared.object_fault.ObjectFault.TheVariants.{BadCount, BadValue}
use Rattle.rr_object.specs.declared.object_fault.ObjectFault.TheVariants.{OtherSource}
use Rattle.rr_object.specs.declared.key.Key.{Key}
use Rattle.rr_object.specs.declared.key.Key.TheVariants.{Mntner, AsBlock, AutNum, Inetnum, Route}
use Rattle.rr_object.specs.declared.key.Key.TheVariants.{AsSet, RouteSet}
use Rattle.rr_object.specs.declared.kind.Kind.TheVariants.{Origin}
use Rattle.rr_object.specs.Classes.{class_named}
use Rattle.rr_object.specs.FirstFaults.{FirstFaultIsTold, ObjectsSayTheirParagraphs, class_in}
use Rattle.rr_object.specs.FirstFaults.{first_fault}
use Rattle.rr_object.specs.Items.{only, values_of}
use Rattle.rr_object.specs.Keys.{class_of}
use Rattle.rr_object.specs.KeySpellings.{as_set_key_of, key_at, key_in, key_of, key_of_text}
use Rattle.rr_object.specs.KeySpellings.{or_bad_key, route_key_of, route_set_key_of}
use Rattle.rr_object.specs.Kinds.{kind_name}
use Rattle.rr_object.specs.Objects.{Obj}
use Rattle.rr_object.specs.Readings.{has_bad_value, is_from, is_miscounted, obj_at, obj_of}
use Rattle.rr_object.specs.Readings.{object_of, result_and_then}
use Rattle.rr_object.proofs.Maintained.{good_object}
use Rattle.rr_object.proofs.Parsed.{of_any_source}

-- a key that is made of a part has the class of that making
made : {A : Type 0} (make : A → Key) (found : Class) → ((a : A) → class_of (make a) ≡ found) →
    (part : Option A) (key : Key)
    → option_map make part ≡ Some key → class_of key ≡ found
made make found of None key e = cc
made make found of (Some a) key e =
    let same : make a ≡ key = cc in
    rw (← same) (of a)

route_step : (prefix : Option PrefixParts) (origin : Option ℕ) (key : Key)
    → option_and_then (λ p. option_map (Route p) origin) prefix ≡ Some key → class_of key
    ≡ class.Route
route_step None origin key e = cc
route_step (Some p) origin key e = made (Route p) class.Route (λ n. refl) origin key e

origin_step : (text : List ℕ) (origin : Option (List ℕ)) (key : Key)
    → option_and_then (route_key_of text) origin ≡ Some key → class_of key ≡ class.Route
origin_step text None key e = cc
origin_step text (Some origin) key e = route_step (prefix_of text) (as_number_of origin) key e

-- the key of a paragraph is one of its class
classed : (found : Class) (text : List ℕ) (fields : List Field) (key : Key) →
    key_at found text fields ≡ Some key → class_of key ≡ found
unfolding key_at key_of_text
classed class.Mntner text fields key e = made Mntner class.Mntner (λ a. refl)
    (maintainer_name_of text) key e
classed class.AsBlock text fields key e = made AsBlock class.AsBlock (λ a. refl) (as_span_of text)
    key e
classed class.AutNum text fields key e = made AutNum class.AutNum (λ a. refl) (as_number_of text)
    key e
classed class.Inetnum text fields key e = made Inetnum class.Inetnum (λ a. refl)
    (spelled_span text) key e
classed class.Route text fields key e =
    origin_step text (only (values_of (kind_name Origin) fields)) key e
classed class.AsSet text fields key e = made AsSet class.AsSet (λ a. refl) (as_set_key_of text) key
    e
classed class.RouteSet text fields key e = made RouteSet class.RouteSet (λ a. refl)
    (route_set_key_of text) key e

-- of tests for the faults after that of the key, the first that is passed tells the fault
told_step : (read : Obj) (count value from_here : Bool)
    → result_err (result_and_then (λ object. if from_here then Ok object else Err OtherSource)
    (if count then Err BadCount else if value then Err BadValue else Ok read))
    ≡ (if count then Some BadCount else if value then Some BadValue else if not from_here then Some
    OtherSource else None)
told_step read true value from_here = refl
told_step read false true from_here = refl
told_step read false false true = refl
told_step read false false false = refl

told_key : (fields : List Field) (source text : List ℕ) (found : Class) (k : Option Key) →
    class_in fields ≡ Some found
    → key_of fields ≡ or_bad_key k → ((key : Key) → k ≡ Some key → class_of key ≡ found)
    → result_err (object_of fields source) ≡ first_fault source fields
unfolding object_of obj_of
told_key fields source text found None named read of = rw (read, named) refl
told_key fields source text found (Some key) named read of =
    let same : class_of key ≡ found = of key refl in
    rw (read, named, ← same) (told_step (obj_at key fields) (is_miscounted (class_of key) fields)
    (has_bad_value (class_of key) fields) (is_from source fields))

told_class : (fields : List Field) (source text : List ℕ) (c : Option Class) → class_in fields
    ≡ c → key_of fields ≡ key_in c text fields
    → result_err (object_of fields source) ≡ first_fault source fields
unfolding object_of obj_of
told_class fields source text None named read = rw (read, named) refl
told_class fields source text (Some found) named read =
    told_key fields source text found (key_at found text fields) named read
    (λ key e. classed found text fields key e)

pub first_fault_is_told : FirstFaultIsTold
unfolding object_of obj_of key_of
first_fault_is_told [] source = refl
first_fault_is_told (first ∷ others) source =
    told_class (first ∷ others) source (value_meaning first.lines) (class_named first.name) refl
    refl

pub objects_say_their_paragraphs : ObjectsSayTheirParagraphs
objects_say_their_paragraphs fields source object e =
    let good = good_object fields object (of_any_source fields source object e) in
    (good.key, (good.read, good.value))
