-- When a paragraph has each fault, and which fault is the first: for `the_first_fault_is_told` of
-- `src/laws.rt`.
use Rattle.std.specs.Prelude.{◌≡◌, ℕ, Bool, false, not, List, [], ◌∷◌, Option, None}
use Rattle.std.specs.Prelude.{is_none, find, Ok}
use Rattle.std.specs.Option.{option_map_or}
use Rattle.std.specs.Result.{result_err, result_ok}
use Rattle.rr_text.specs.Fields.{Field}
use Rattle.rr_object.specs.declared.class.Class.{Class}
use Rattle.rr_object.specs.declared.object_fault.ObjectFault.{ObjectFault}
use Rattle.rr_object.specs.declared.object_fault.ObjectFault.TheVariants.{UnknownClass, BadKey}
use Rattle.rr_object.specs.declared.object_fault.ObjectFault.TheVariants.{BadCount, BadValue}
use Rattle.rr_object.specs.declared.object_fault.ObjectFault.TheVariants.{OtherSource, Memory}
use Rattle.rr_object.specs.declared.key.Key.{Key}
use Rattle.rr_object.specs.Classes.{class_named}
use Rattle.rr_object.specs.KeySpellings.{key_of}
use Rattle.rr_object.specs.Objects.{Obj}
use Rattle.rr_object.specs.Readings.{has_bad_value, is_from, is_miscounted, obj_at, object_of}

-- the class that the first attribute names, if there is one and it names a class (RFC 2622, 2)
abbrev pub class_in : List Field → Option Class
class_in [] = None
class_in (first ∷ others) = class_named first.name

-- a fact of the class and the paragraph, which holds only where the class is known (profile)
abbrev pub in_its_class : (Class → List Field → Bool) → List Field → Bool
in_its_class fact fields = option_map_or (λ class. fact class fields) (class_in fields) false

-- a paragraph has a fault: it has no first attribute that names a class; it has no key. Of a known
-- class a needed attribute is missing or has no item, or one that stands once is repeated; or a
-- value is bad, or it has a pseudo-attribute. Or its source is not the registry's. That memory ran
-- out is no fault of it (profile)
abbrev pub has_fault : List ℕ → List Field → ObjectFault → Bool
has_fault source fields UnknownClass = is_none (class_in fields)
has_fault source fields BadKey = is_none (result_ok (key_of fields))
has_fault source fields BadCount = in_its_class is_miscounted fields
has_fault source fields BadValue = in_its_class has_bad_value fields
has_fault source fields OtherSource = not (is_from source fields)
has_fault source fields Memory = false

-- the order in which a paragraph is judged (profile)
abbrev pub fault_order : List ObjectFault
fault_order = UnknownClass ∷ (BadKey ∷ (BadCount ∷ (BadValue ∷ (OtherSource ∷ []))))

-- the first fault, in that order, that a paragraph has in a registry of a source (profile)
abbrev pub first_fault : List ℕ → List Field → Option ObjectFault
first_fault source fields = find (has_fault source fields) fault_order

-- a paragraph is refused for its first fault in that order, and only for a fault (profile)
abbrev pub FirstFaultIsTold : Type 0
FirstFaultIsTold = (fields : List Field) (source : List ℕ)
    → result_err (object_of fields source) ≡ first_fault source fields

-- an object has the key of its paragraph, and says what this says (RFC 2622, 2)
abbrev pub ObjectsSayTheirParagraphs : Type 0
ObjectsSayTheirParagraphs =
    (fields : List Field) (source : List ℕ) (object : Obj)
    → object_of fields source ≡ Ok object
    → (key : Key) × ((key_of fields ≡ Ok key) × (object ≡ obj_at key fields))
