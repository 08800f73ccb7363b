-- The object that a paragraph is, or its first fault (RFC 2622, 2 to 6; RFC 2725, 10; the order:
-- profile): for `Object` and all that reads objects.
use Rattle.std.specs.Prelude.{◌≡◌, ℕ, Bool, false, not, ◌==◌, ◌||◌, List, []}
use Rattle.std.specs.Prelude.{Option, is_none, unwrap_or, Result, Ok, Err, codes, map, count_by}
use Rattle.std.specs.Prelude.{if◌then◌else◌}
use Rattle.std.specs.List.{list_any}
use Rattle.std.specs.Option.{option_map_or, option_and_then}
use Rattle.std.specs.Str.{bytes_eq}
use Rattle.rr_text.specs.Fields.{Field, has_name, with_value}
use Rattle.rr_number.specs.Names.{name_of}
use Rattle.rr_object.specs.declared.class.Class.{Class}
use Rattle.rr_object.specs.declared.class.Class.TheVariants as class
use Rattle.rr_object.specs.declared.key.Key.{Key}
use Rattle.rr_object.specs.declared.member.Member.{Member}
use Rattle.rr_object.specs.declared.kind.Kind.{Kind}
use Rattle.rr_object.specs.declared.kind.Kind.TheVariants.{MntBy, Source, Auth, MntLower, MntRoutes}
use Rattle.rr_object.specs.declared.kind.Kind.TheVariants.{Origin, MemberOf, Members, MbrsByRef}
use Rattle.rr_object.specs.declared.object_fault.ObjectFault.{ObjectFault}
use Rattle.rr_object.specs.declared.object_fault.ObjectFault.TheVariants.{BadCount, BadValue}
use Rattle.rr_object.specs.declared.object_fault.ObjectFault.TheVariants.{OtherSource}
use Rattle.rr_object.specs.declared.kind.Occurs.{Occurs}
use Rattle.rr_object.specs.declared.kind.Occurs.TheVariants.{Once, WithItems, Freely, AsText}
use Rattle.rr_object.specs.Auths.{auth_item}
use Rattle.rr_object.specs.Classes.{class_name}
use Rattle.rr_object.specs.Grants.{grants_of, is_any}
use Rattle.rr_bytes.specs.Parts.{is_filled}
use Rattle.rr_object.specs.Items.{only, values_of, items, joined, spaced, are_good, meant}
use Rattle.rr_object.specs.Keys.{class_of}
use Rattle.rr_object.specs.KeySpellings.{key_of}
use Rattle.rr_object.specs.Kinds.{kind_name, is_read, occurs}
use Rattle.rr_object.specs.Members.{maintainer_item, set_item, by_ref_item, as_set_item}
use Rattle.rr_object.specs.Members.{route_set_item}
use Rattle.rr_object.specs.Objects.{Obj}
use Rattle.rr_object.specs.Parts.{ByRefParts}

-- the text in which the items of an attribute's values stand: a brace in `mnt-routes` is one by
-- itself (profile)
abbrev pub list_text : Kind → List (List ℕ) → List ℕ
list_text MntRoutes values = spaced (joined values)
list_text MntBy values = joined values
list_text Source values = joined values
list_text Auth values = joined values
list_text MntLower values = joined values
list_text Origin values = joined values
list_text MemberOf values = joined values
list_text Members values = joined values
list_text MbrsByRef values = joined values

-- the items of an attribute's values together: each value of `auth` is one item (RFC 2622, 2;
-- profile)
abbrev pub items_among : Kind → List (List ℕ) → List (List ℕ)
items_among Auth values = values
items_among MntRoutes values = items (list_text MntRoutes values)
items_among MntBy values = items (list_text MntBy values)
items_among Source values = items (list_text Source values)
items_among MntLower values = items (list_text MntLower values)
items_among Origin values = items (list_text Origin values)
items_among MemberOf values = items (list_text MemberOf values)
items_among Members values = items (list_text Members values)
items_among MbrsByRef values = items (list_text MbrsByRef values)

-- the items of an attribute over all its occurrences (RFC 2622, 2)
unfoldable pub items_of : Kind → List Field → List (List ℕ)
items_of kind fields = items_among kind (values_of (kind_name kind) fields)

-- the items of an attribute that are read in an object of a class (RFC 2622, 3 to 6; RFC 2725, 10)
unfoldable pub items_read : Kind → Class → List Field → List (List ℕ)
items_read kind class fields = if is_read kind class then items_of kind fields else []

-- how many attributes have this name (RFC 2622, 2)
abbrev pub count_named : List ℕ → List Field → ℕ
count_named name fields = count_by (has_name name) fields

-- an attribute stands more or less often than it may, or has no item where it needs one
-- (RFC 2622, 2; profile)
abbrev pub breaks : Occurs → Kind → List Field → Bool
breaks Once kind fields =
    not (count_named (kind_name kind) fields == 1) || not (is_filled (items_of kind fields))
breaks WithItems kind fields = not (is_filled (items_of kind fields))
breaks Freely kind fields = false
breaks AsText kind fields = false

-- an attribute stands more or less often than it may in an object of a class, or has no item where
-- it needs one (RFC 2622, 3 to 6; RFC 2725, 10)
abbrev pub is_miscounted_in : Class → Kind → List Field → Bool
is_miscounted_in class kind fields = breaks (occurs kind class) kind fields

-- an attribute is missing or has no item that an object of the class needs, or one that stands once
-- is repeated; the `origin` of a route is a part of its key and judged there (profile)
unfoldable pub is_miscounted : Class → List Field → Bool
is_miscounted class fields =
    not (count_named (class_name class) fields == 1)
    || (is_miscounted_in class MntBy fields
    || (is_miscounted_in class Source fields || is_miscounted_in class Auth fields))

-- an item of `members` in an object of a class: as-sets have their own rule, route-sets the other;
-- the other classes stand with route-sets here, but `members` is not read in them (RFC 2622, 5)
abbrev pub member_item : Class → List ℕ → Option (Option Member)
member_item class.Mntner item = route_set_item item
member_item class.AsBlock item = route_set_item item
member_item class.AutNum item = route_set_item item
member_item class.Inetnum item = route_set_item item
member_item class.Route item = route_set_item item
member_item class.AsSet item = as_set_item item
member_item class.RouteSet item = route_set_item item

-- the source that a paragraph names, where it has one `source` and that is a name (RFC 2622, 2)
abbrev pub source_of : List Field → Option (List ℕ)
source_of fields = option_and_then name_of (only (values_of (kind_name Source) fields))

-- the pseudo-attributes, which stand in submissions and in no object (profile)
abbrev pub is_pseudo_attribute : Field → Bool
is_pseudo_attribute field = has_name (codes "password") field || has_name (codes "delete") field

-- the maintainers that an attribute of an object names (RFC 2622, 3)
abbrev pub maintainers_of : Kind → Class → List Field → List (List ℕ)
maintainers_of kind class fields = meant maintainer_item (items_read kind class fields)

-- the maintainers that an attribute of an object names are well spelled (RFC 2622, 3)
abbrev pub are_maintainers : Kind → Class → List Field → Bool
are_maintainers kind class fields = are_good maintainer_item (items_read kind class fields)

-- a paragraph has a pseudo-attribute, or has not exactly one `source`, or that is not a name
-- (profile; RFC 2622, 2)
unfoldable pub has_bad_text : List Field → Bool
has_bad_text fields = list_any is_pseudo_attribute fields || is_none (source_of fields)

-- a paragraph has a bad value of `mnt-by`, `mnt-lower`, `mnt-routes` or `auth` (RFC 2622, 3;
-- RFC 2725, 10)
unfoldable pub has_bad_authority : Class → List Field → Bool
has_bad_authority class fields =
    not (are_maintainers MntBy class fields)
    || (not (are_maintainers MntLower class fields)
    || (is_none (grants_of (items_read MntRoutes class fields))
    || not (are_good auth_item (items_read Auth class fields))))

-- a paragraph has a bad value of `members`, `mbrs-by-ref` or `member-of` (RFC 2622, 5)
unfoldable pub has_bad_membership : Class → List Field → Bool
has_bad_membership class fields =
    not (are_good (member_item class) (items_read Members class fields))
    || (not (are_good by_ref_item (items_read MbrsByRef class fields))
    || not (are_good set_item (items_read MemberOf class fields)))

-- a paragraph of the class has a pseudo-attribute, or a bad value of an interpreted attribute
-- (RFC 2622, 2 to 6; RFC 2725, 10; pseudo-attributes: profile)
unfoldable pub has_bad_value : Class → List Field → Bool
has_bad_value class fields =
    has_bad_text fields || (has_bad_authority class fields || has_bad_membership class fields)

-- whose objects may say that they belong to a set (RFC 2622, 5)
abbrev pub by_ref_of : List (List ℕ) → ByRefParts
by_ref_of listed = record { any = list_any is_any listed; names = meant by_ref_item listed }

-- an object of this key, with what its paragraph says. A bad `mnt-routes` says nothing, nor does a
-- bad item elsewhere (RFC 2622, 2 to 6; RFC 2725, 10)
unfoldable pub obj_at : Key → List Field → Obj
obj_at key fields =
    let class = class_of key in
    record {
      key = key;
      paragraph = fields;
      maintainers = maintainers_of MntBy class fields;
      lower = maintainers_of MntLower class fields;
      routes = unwrap_or (grants_of (items_read MntRoutes class fields)) [];
      auths = meant auth_item (items_read Auth class fields);
      members = meant (member_item class) (items_read Members class fields);
      by_ref = by_ref_of (items_read MbrsByRef class fields);
      member_of = meant set_item (items_read MemberOf class fields);
    }

-- the object of a paragraph whose key is this, or its first fault: a bad count, then a bad value
-- (profile)
abbrev pub obj_of_key : List Field → Key → Result Obj ObjectFault
obj_of_key fields key =
    if is_miscounted (class_of key) fields then Err BadCount
    else if has_bad_value (class_of key) fields then Err BadValue
    else Ok (obj_at key fields)

-- the fault of a first step, or what the next step makes of its result (profile)
abbrev pub result_and_then : {X Y : Type 0} → (X → Result Y ObjectFault)
    → Result X ObjectFault → Result Y ObjectFault
result_and_then next (Ok x) = next x
result_and_then next (Err fault) = Err fault

-- the object that a paragraph is, whichever source it names, or the first of its faults (RFC 2622,
-- 2 to 6; RFC 2725, 10)
unfoldable pub obj_of : List Field → Result Obj ObjectFault
obj_of fields = result_and_then (obj_of_key fields) (key_of fields)

-- the source that a paragraph names is this one, which stands in upper case (RFC 2622, 2)
abbrev pub is_from : List ℕ → List Field → Bool
is_from source fields = option_map_or (λ name. bytes_eq name source) (source_of fields) false

-- the object that a paragraph is in a registry of this source, or the first of its faults (profile)
unfoldable pub object_of : List Field → List ℕ → Result Obj ObjectFault
object_of fields source =
    result_and_then (λ object. if is_from source fields then Ok object else Err OtherSource)
    (obj_of fields)

-- an object is what a paragraph reads as in a registry of this source (profile)
abbrev pub ReadsAs : List ℕ → List Field → Obj → Type 0
ReadsAs source fields object = object_of fields source ≡ Ok object

-- the line in place of each value of `auth` in public answers (profile)
abbrev pub hidden : List ℕ
hidden = codes "# filtered"

-- the paragraph of an object in public answers: in place of each value of an attribute named `auth`
-- stands the line that hides it (profile)
unfoldable pub public_of : Obj → List Field
public_of object = map (with_value (kind_name Auth) hidden) object.paragraph
