-- An object has a maintainer.
use Rattle.std.proofs.Common.{◌≡◌, ◌<◌, ℕ, List, [], ◌∷◌, length, Option, Some, None, Result, Ok}
use Rattle.std.proofs.Common.{Err, Bool, true, false, not, ◌||◌, refl, ap, ◌∙◌, arith}
use Rattle.std.proofs.Common.{if◌then◌else◌}
use Rattle.std.specs.Option.{option_map}
use Rattle.rr_text.specs.Fields.{Field}
use Rattle.rr_number.specs.Names.{maintainer_name_of}
use Rattle.rr_object.specs.declared.object_fault.ObjectFault.TheVariants.{BadCount, BadValue}
use Rattle.rr_object.specs.declared.object_fault.ObjectFault.{ObjectFault}
use Rattle.rr_object.specs.declared.class.Class.{Class}
use Rattle.rr_object.specs.declared.key.Key.{Key}
use Rattle.rr_object.specs.declared.kind.Kind.TheVariants.{MntBy}
use Rattle.rr_bytes.specs.Parts.{is_filled}
use Rattle.rr_object.specs.Items.{are_good, meant}
use Rattle.rr_object.specs.Keys.{class_of}
use Rattle.rr_object.specs.KeySpellings.{key_of}
use Rattle.rr_object.specs.Kinds.{occurs}
use Rattle.rr_object.specs.Members.{maintainer_item}
use Rattle.rr_object.specs.Objects.{Obj}
use Rattle.rr_object.specs.Readings.{has_bad_authority, has_bad_value, is_miscounted, items_of}
use Rattle.rr_object.specs.Readings.{items_read, obj_at, obj_of, obj_of_key, result_and_then}

-- a filled list of well spelled items, each of which stands for something, has something to stand
-- for
some_step : (read : List ℕ → Option (List ℕ)) (item : List ℕ) (others : List (List ℕ))
    (r : Option (List ℕ)) → read item ≡ r
    → are_good (λ i. option_map Some (read i)) (item ∷ others) ≡ true
    → 0 < length (meant (λ i. option_map Some (read i)) (item ∷ others))
some_step read item others None e good = absurd (let bad = rw e at good in cc bad)
some_step read item others (Some name) e good = rw e (omega arith)

some_meant : (read : List ℕ → Option (List ℕ)) (listed : List (List ℕ)) → is_filled listed ≡ true
    → are_good (λ i. option_map Some (read i)) listed ≡ true →
    0 < length (meant (λ i. option_map Some (read i)) listed)
some_meant read [] filled good = absurd (cc filled)
some_meant read (item ∷ others) filled good = some_step read item others (read item) refl good

-- what was read had no bad count and no bad value
pub record IsGood (fields : List Field) (object : Obj) : Type 0 where
  pub key : Key
  pub read : key_of fields ≡ Ok key
  pub counted : is_miscounted (class_of key) fields ≡ false
  pub spelled : has_bad_value (class_of key) fields ≡ false
  pub value : object ≡ obj_at key fields

good_value : (fields : List Field) (key : Key) (object : Obj) (b : Bool)
    → (if b then Err BadValue else Ok (obj_at key fields)) ≡ Ok object → (b ≡ false)
    × (object ≡ obj_at key fields)
good_value fields key object true e = cc
good_value fields key object false e = (refl, cc)

good_count : (fields : List Field) (key : Key) (object : Obj) (b c : Bool)
    → (if b then Err BadCount else if c then Err BadValue else Ok (obj_at key fields)) ≡ Ok object
    → (b ≡ false) × ((c ≡ false) × (object ≡ obj_at key fields))
good_count fields key object true c e = cc
good_count fields key object false c e = (refl, good_value fields key object c e)

good_key : (fields : List Field) (object : Obj) (read : Result Key ObjectFault) → key_of fields
    ≡ read
    → result_and_then (obj_of_key fields) read ≡ Ok object → IsGood fields object
good_key fields object (Err fault) is e = cc
good_key fields object (Ok key) is e =
    let parts = good_count fields key object (is_miscounted (class_of key) fields)
    (has_bad_value (class_of key) fields) e in
    record { key = key; read = is; counted = parts.0; spelled = parts.1.0; value = parts.1.1 }

pub good_object : (fields : List Field) (object : Obj) → obj_of fields ≡ Ok object →
    IsGood fields object
unfolding obj_of
good_object fields object e = good_key fields object (key_of fields) refl e

-- a test of several parts fails only where each part does
second_false : (a b c : Bool) → (a || (b || c)) ≡ false → b ≡ false
second_false true b c e = cc
second_false false true c e = cc
second_false false false c e = refl

not_false : (a : Bool) → not a ≡ false → a ≡ true
not_false true e = refl
not_false false e = cc

first_false : (a b : Bool) → (not a || b) ≡ false → a ≡ true
first_false true b e = refl
first_false false b e = cc

has_maintainer_items : (class : Class) (fields : List Field) → is_miscounted class fields ≡ false →
    is_filled (items_of MntBy fields) ≡ true
unfolding is_miscounted occurs
has_maintainer_items class fields e = not_false (is_filled (items_of MntBy fields))
    (second_false _ _ _ e)

has_good_maintainers : (class : Class) (fields : List Field) → has_bad_value class fields ≡ false
    → are_good maintainer_item (items_of MntBy fields) ≡ true
unfolding has_bad_value has_bad_authority items_read occurs
has_good_maintainers class fields e =
    first_false (are_good maintainer_item (items_of MntBy fields)) _ (second_false _ _ _ e)

maintainers_at : (key : Key) (fields : List Field) → (obj_at key fields).maintainers
    ≡ meant maintainer_item (items_of MntBy fields)
unfolding obj_at items_read occurs
maintainers_at key fields = refl

pub has_maintainer : (fields : List Field) (object : Obj) → obj_of fields ≡ Ok object →
    0 < length object.maintainers
has_maintainer fields object e =
    let good = good_object fields object e in
    let same : object.maintainers ≡ meant maintainer_item (items_of MntBy fields) =
    ap (λ o. o.maintainers) good.value ∙ maintainers_at good.key fields in
    rw same
    (some_meant maintainer_name_of (items_of MntBy fields)
    (has_maintainer_items (class_of good.key) fields good.counted)
    (has_good_maintainers (class_of good.key) fields good.spelled))
