-- The object of a paragraph, from what its attributes say.
use Rattle.std.proofs.Common.{◌≡◌, ℕ, List, [], ◌∷◌, Some, Result, Ok, Err, Bool, true, false, refl}
use Rattle.std.proofs.Common.{ap, sym, ◌∙◌, if◌then◌else◌}
use Rattle.rr_text.specs.Fields.{Field}
use Rattle.rr_object.specs.declared.object_fault.ObjectFault.TheVariants.{UnknownClass, BadCount}
use Rattle.rr_object.specs.declared.object_fault.ObjectFault.TheVariants.{BadValue, OtherSource}
use Rattle.rr_object.specs.declared.object_fault.ObjectFault.{ObjectFault}
use Rattle.rr_object.specs.declared.key.Key.{Key}
use Rattle.rr_object.specs.declared.kind.Kind.TheVariants.{MntBy, MntLower, MntRoutes, Auth}
use Rattle.rr_object.specs.declared.kind.Kind.TheVariants.{Members, MbrsByRef, MemberOf}
use Rattle.rr_object.specs.declared.member.Member.{Member}
use Rattle.rr_object.specs.Auths.{auth_item}
use Rattle.rr_object.specs.Grants.{grants_of}
use Rattle.rr_object.specs.Items.{meant}
use Rattle.rr_object.specs.Keys.{class_of}
use Rattle.rr_object.specs.KeySpellings.{key_from, key_of}
use Rattle.rr_object.specs.Members.{set_item}
use Rattle.rr_object.specs.Objects.{Obj}
use Rattle.rr_object.specs.Parts.{AuthParts, ByRefParts, GrantParts}
use Rattle.rr_object.specs.Readings.{by_ref_of, has_bad_authority, has_bad_membership, has_bad_text}
use Rattle.rr_object.specs.Readings.{has_bad_value, is_miscounted, items_read, maintainers_of}
use Rattle.rr_object.specs.Readings.{member_item, obj_at, obj_of, obj_of_key, object_of, is_from}
use Rattle.rr_object.specs.Readings.{result_and_then}

pub miscounted : (fields : List Field) (key : Key) → key_of fields ≡ Ok key →
    is_miscounted (class_of key) fields ≡ true → obj_of fields ≡ Err BadCount
unfolding obj_of
miscounted fields key read count = rw (read, count) refl

bad_steps : (fields : List Field) (key : Key) → key_of fields ≡ Ok key →
    is_miscounted (class_of key) fields ≡ false
    → has_bad_value (class_of key) fields ≡ true → obj_of fields ≡ Err BadValue
unfolding obj_of
bad_steps fields key read count bad = rw (read, count, bad) refl

pub bad_text : (fields : List Field) (key : Key) → key_of fields ≡ Ok key →
    is_miscounted (class_of key) fields ≡ false
    → has_bad_text fields ≡ true → obj_of fields ≡ Err BadValue
unfolding has_bad_value
bad_text fields key read count bad = bad_steps fields key read count (rw bad refl)

pub bad_authority : (fields : List Field) (key : Key) → key_of fields ≡ Ok key →
    is_miscounted (class_of key) fields ≡ false
    → has_bad_text fields ≡ false → has_bad_authority (class_of key) fields ≡ true → obj_of fields
    ≡ Err BadValue
unfolding has_bad_value
bad_authority fields key read count text bad = bad_steps fields key read count (rw (text, bad) refl)

pub bad_membership : (fields : List Field) (key : Key) → key_of fields ≡ Ok key →
    is_miscounted (class_of key) fields ≡ false
    → has_bad_text fields ≡ false → has_bad_authority (class_of key) fields ≡ false →
    has_bad_membership (class_of key) fields ≡ true
    → obj_of fields ≡ Err BadValue
unfolding has_bad_value
bad_membership fields key read count text authority bad = bad_steps fields key read count
    (rw (text, authority, bad) refl)

good_value : (fields : List Field) (key : Key) → has_bad_text fields ≡ false →
    has_bad_authority (class_of key) fields ≡ false
    → has_bad_membership (class_of key) fields ≡ false → has_bad_value (class_of key) fields ≡ false
unfolding has_bad_value
good_value fields key text authority membership = rw (text, authority, membership) refl

good_steps : (fields : List Field) (key : Key) → key_of fields ≡ Ok key →
    is_miscounted (class_of key) fields ≡ false
    → has_bad_value (class_of key) fields ≡ false → obj_of fields ≡ Ok (obj_at key fields)
unfolding obj_of
good_steps fields key read count good = rw (read, count, good) refl

obj_at-parts : (fields : List Field) (key : Key) (maintainers lower : List (List ℕ))
    (routes : List GrantParts)
    (auths : List AuthParts) (members : List Member) (by_ref : ByRefParts)
    (member_of : List (List ℕ))
    → maintainers ≡ maintainers_of MntBy (class_of key) fields → lower ≡ maintainers_of MntLower
    (class_of key) fields
    → grants_of (items_read MntRoutes (class_of key) fields) ≡ Some routes
    → auths ≡ meant auth_item (items_read Auth (class_of key) fields)
    → members ≡ meant (member_item (class_of key)) (items_read Members (class_of key) fields)
    → by_ref ≡ by_ref_of (items_read MbrsByRef (class_of key) fields)
    → member_of ≡ meant set_item (items_read MemberOf (class_of key) fields)
    → obj_at key fields ≡ record {
      key = key;
      paragraph = fields;
      maintainers = maintainers;
      lower = lower;
      routes = routes;
      auths = auths;
      members = members;
      by_ref = by_ref;
      member_of = member_of;
    }
unfolding obj_at
obj_at-parts fields key maintainers lower routes auths members by_ref member_of ma lo ro au me by
    mo =
    rw (ma, lo, ro, au, me, by, mo) refl

pub obj_read : (fields : List Field) (key : Key) (maintainers lower : List (List ℕ))
    (routes : List GrantParts)
    (auths : List AuthParts) (members : List Member) (by_ref : ByRefParts)
    (member_of : List (List ℕ))
    → key_of fields ≡ Ok key → is_miscounted (class_of key) fields ≡ false
    → has_bad_text fields ≡ false → has_bad_authority (class_of key) fields ≡ false →
    has_bad_membership (class_of key) fields ≡ false
    → maintainers ≡ maintainers_of MntBy (class_of key) fields → lower ≡ maintainers_of MntLower
    (class_of key) fields
    → grants_of (items_read MntRoutes (class_of key) fields) ≡ Some routes
    → auths ≡ meant auth_item (items_read Auth (class_of key) fields)
    → members ≡ meant (member_item (class_of key)) (items_read Members (class_of key) fields)
    → by_ref ≡ by_ref_of (items_read MbrsByRef (class_of key) fields)
    → member_of ≡ meant set_item (items_read MemberOf (class_of key) fields)
    → obj_of fields ≡ Ok (record {
      key = key;
      paragraph = fields;
      maintainers = maintainers;
      lower = lower;
      routes = routes;
      auths = auths;
      members = members;
      by_ref = by_ref;
      member_of = member_of;
    })
obj_read fields key maintainers lower routes auths members by_ref member_of read count text
    authority membership ma lo ro au me by mo =
    rw (← obj_at-parts fields key maintainers lower routes auths members by_ref member_of ma lo ro
    au me by mo)
    (good_steps fields key read count (good_value fields key text authority membership))

-- what is read of a paragraph whose key was read keeps the paragraph and the key
kept_value : (fields : List Field) (key : Key) (object : Obj) (b : Bool) →
    (if b then Err BadValue else Ok (obj_at key fields)) ≡ Ok object → object ≡ obj_at key fields
kept_value fields key object true e = cc
kept_value fields key object false e = cc

kept_count : (fields : List Field) (key : Key) (object : Obj) (b c : Bool)
    → (if b then Err BadCount else if c then Err BadValue else Ok (obj_at key fields)) ≡ Ok object
    → object ≡ obj_at key fields
kept_count fields key object true c e = cc
kept_count fields key object false c e = kept_value fields key object c e

kept_key : (fields : List Field) (object : Obj) (read : Result Key ObjectFault) →
    result_and_then (obj_of_key fields) read ≡ Ok object
    → (key : Key) × ((read ≡ Ok key) × (object ≡ obj_at key fields))
kept_key fields object (Err fault) e = cc
kept_key fields object (Ok key) e = (
  key,
  (
    refl,
    kept_count fields key object (is_miscounted (class_of key) fields)
        (has_bad_value (class_of key) fields) e,
  ),
)

kept : (fields : List Field) (object : Obj) → obj_of fields ≡ Ok object → (key : Key)
    × ((key_of fields ≡ Ok key) × (object ≡ obj_at key fields))
unfolding obj_of
kept fields object e = kept_key fields object (key_of fields) e

paragraph_at : (key : Key) (fields : List Field) → (obj_at key fields).paragraph ≡ fields
unfolding obj_at
paragraph_at key fields = refl

key_at : (key : Key) (fields : List Field) → (obj_at key fields).key ≡ key
unfolding obj_at
key_at key fields = refl

pub kept_paragraph : (fields : List Field) (object : Obj) → obj_of fields ≡ Ok object →
    object.paragraph ≡ fields
kept_paragraph fields object e =
    let k = kept fields object e in ap (λ o. o.paragraph) k.1.1 ∙ paragraph_at k.0 fields

pub kept_its_key : (fields : List Field) (object : Obj) → obj_of fields ≡ Ok object → key_of fields
    ≡ Ok object.key
kept_its_key fields object e =
    let k = kept fields object e in k.1.0 ∙ ap Ok (sym (ap (λ o. o.key) k.1.1 ∙ key_at k.0 fields))

of_test : (object o : Obj) (b : Bool) → (if b then Ok o else Err OtherSource) ≡ Ok object →
    o ≡ object
of_test object o true e = cc
of_test object o false e = cc

of_source : (object : Obj) (source : List ℕ) (fields : List Field) (read : Result Obj ObjectFault)
    → result_and_then (λ o. if is_from source fields then Ok o else Err OtherSource) read
    ≡ Ok object → read ≡ Ok object
of_source object source fields (Err fault) e = cc
of_source object source fields (Ok o) e = ap Ok (of_test object o (is_from source fields) e)

pub of_any_source : (fields : List Field) (source : List ℕ) (object : Obj) →
    object_of fields source ≡ Ok object → obj_of fields ≡ Ok object
unfolding object_of
of_any_source fields source object e = of_source object source fields (obj_of fields) e

-- where there is no key, there is no object
pub keyless : (fields : List Field) (source : List ℕ) (fault : ObjectFault) → key_of fields
    ≡ Err fault → object_of fields source ≡ Err fault
unfolding object_of obj_of
keyless fields source fault e = rw e refl

-- the key of a paragraph, by whether it has a first attribute
pub key_first : (fields rest : List Field) (first : Field) → fields ≡ first ∷ rest → key_of fields
    ≡ key_from first fields
unfolding key_of
key_first fields rest first e = rw e refl

pub key_none : (fields : List Field) → fields ≡ [] → key_of fields ≡ Err UnknownClass
unfolding key_of
key_none fields e = rw e refl

pub ruleset what_is_said = (obj_read, miscounted, bad_text, bad_authority, bad_membership)
