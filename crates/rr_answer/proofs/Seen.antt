-- What is seen of an object in public, and that its lists but that of `auth` are read from it.
use Rattle.std.proofs.Common.{◌≡◌, ℕ, Bool, true, false, cond, List, [], ◌∷◌, refl, sym, ap, ◌∙◌}
use Rattle.std.specs.Prelude.{Ok, map, filter, unwrap_or, if◌then◌else◌}
use Rattle.std.specs.Str.{bytes_eq}
use Rattle.std.proofs.lemmas.Slice.Eq.{bytes_eq-Decides}
use Rattle.rr_text.specs.Fields.{Field, has_name, with_value}
use Rattle.rr_text.specs.Meanings.{value_meaning}
use Rattle.rr_object.specs.declared.class.Class.{Class}
use Rattle.rr_object.specs.declared.key.Key.{Key}
use Rattle.rr_object.specs.declared.kind.Kind.{Kind}
use Rattle.rr_object.specs.declared.kind.Kind.TheVariants.{MntBy, Auth, MntLower, MntRoutes}
use Rattle.rr_object.specs.declared.kind.Kind.TheVariants.{MemberOf, Members, MbrsByRef}
use Rattle.rr_object.specs.Grants.{grants_of}
use Rattle.rr_object.specs.Items.{meant, values_of}
use Rattle.rr_object.specs.Keys.{class_of}
use Rattle.rr_object.specs.Kinds.{is_read, kind_name}
use Rattle.rr_object.specs.Members.{maintainer_item, set_item}
use Rattle.rr_object.specs.Objects.{Obj}
use Rattle.rr_object.specs.Readings.{by_ref_of, hidden, items_among, items_of, items_read}
use Rattle.rr_object.specs.Readings.{member_item, obj_at, obj_of, public_of}
use Rattle.rr_object.proofs.Maintained.{IsGood, good_object}

-- an object with its public paragraph, and without the digests of secrets
abbrev pub seen : Obj → Obj
seen o = record {
  key = o.key;
  paragraph = public_of o;
  maintainers = o.maintainers;
  lower = o.lower;
  routes = o.routes;
  auths = [];
  members = o.members;
  by_ref = o.by_ref;
  member_of = o.member_of;
}

-- an attribute as it is seen
abbrev pub hide : Field → Field
hide field = with_value (kind_name Auth) hidden field

-- values that are equal stay so after one more attribute
values_after : (name : List ℕ) (field : Field) (xs ys : List Field) → values_of name xs ≡ values_of
    name ys
    → values_of name (field ∷ xs) ≡ values_of name (field ∷ ys)
values_after name field xs ys rest =
    elim (has_name name field) as (λ b.
    map (λ f. value_meaning f.lines) (cond b (field ∷ filter (has_name name) xs)
    (filter (has_name name) xs))
    ≡ map (λ f. value_meaning f.lines) (cond b (field ∷ filter (has_name name) ys)
    (filter (has_name name) ys))) [
      | true ↦ ap (λ values. value_meaning field.lines ∷ values) rest
      | false ↦ rest
    ]

-- the values after one more attribute, of which it is known whether it is one that is hidden
values_step : (name : List ℕ) (field : Field) (xs ys : List Field) (b : Bool) →
    has_name (kind_name Auth) field ≡ b
    → bytes_eq (kind_name Auth) name ≡ false → values_of name xs ≡ values_of name ys
    → values_of name ((if b then record { name = field.name; lines = hidden ∷ [] } else field)
    ∷ xs) ≡ values_of name (field ∷ ys)
values_step name field xs ys true e apart rest =
    let same : field.name ≡ kind_name Auth = (bytes_eq-Decides field.name (kind_name Auth)).0 e in
    let other : bytes_eq field.name name ≡ false = ap (λ n. bytes_eq n name) same ∙ apart in
    rw other rest
values_step name field xs ys false e apart rest = values_after name field xs ys rest

-- what is not named `auth` is seen as it is
seen_values : (name : List ℕ) (fields : List Field) → bytes_eq (kind_name Auth) name ≡ false
    → values_of name (map hide fields) ≡ values_of name fields
seen_values name [] apart = refl
seen_values name (field ∷ fields) apart =
    values_step name field (map hide fields) fields (has_name (kind_name Auth) field) refl apart
    (seen_values name fields apart)

-- so are the items of such an attribute
seen_items : (kind : Kind) (fields : List Field) → bytes_eq (kind_name Auth) (kind_name kind)
    ≡ false → items_of kind (map hide fields) ≡ items_of kind fields
unfolding items_of
seen_items kind fields apart = ap (items_among kind) (seen_values (kind_name kind) fields apart)

seen_read : (kind : Kind) (class : Class) (fields : List Field) → bytes_eq (kind_name Auth)
    (kind_name kind) ≡ false
    → items_read kind class (map hide fields) ≡ items_read kind class fields
unfolding items_read
seen_read kind class fields apart = ap (λ found. if is_read kind class then found else [])
    (seen_items kind fields apart)

-- an object of these items
pub made : Key → List Field → List (List ℕ) → List (List ℕ) → List (List ℕ) → List (List ℕ) →
    List (List ℕ) → List (List ℕ) → Obj
made key fields maintainers lower routes members by_ref member_of = record {
  key = key;
  paragraph = fields;
  maintainers = meant maintainer_item maintainers;
  lower = meant maintainer_item lower;
  routes = unwrap_or (grants_of routes) [];
  auths = [];
  members = meant (member_item (class_of key)) members;
  by_ref = by_ref_of by_ref;
  member_of = meant set_item member_of;
}

-- an object of this key as it is seen, whose public paragraph this is
pub shown : Key → List Field → Obj
shown key fields =
    made key fields (items_read MntBy (class_of key) fields)
    (items_read MntLower (class_of key) fields) (items_read MntRoutes (class_of key) fields)
    (items_read Members (class_of key) fields) (items_read MbrsByRef (class_of key) fields)
    (items_read MemberOf (class_of key) fields)

seen_at : (key : Key) (fields : List Field) → seen (obj_at key fields) ≡ shown key (map hide fields)
unfolding obj_at public_of shown made
seen_at key fields = λ i. made key (map hide fields)
    (sym (seen_read MntBy (class_of key) fields refl) i)
    (sym (seen_read MntLower (class_of key) fields refl) i)
    (sym (seen_read MntRoutes (class_of key) fields refl) i)
    (sym (seen_read Members (class_of key) fields refl) i)
    (sym (seen_read MbrsByRef (class_of key) fields refl) i)
    (sym (seen_read MemberOf (class_of key) fields refl) i)

key_at : (key : Key) (fields : List Field) → (obj_at key fields).key ≡ key
unfolding obj_at
key_at key fields = refl

paragraph_at : (key : Key) (fields : List Field) → map hide (obj_at key fields).paragraph
    ≡ map hide fields
unfolding obj_at
paragraph_at key fields = refl

public_at : (o : Obj) → public_of o ≡ map hide o.paragraph
unfolding public_of
public_at o = refl

-- what is seen of an object that is read from its paragraph is told by its key and its public
-- paragraph
pub seen_shown : (o : Obj) → obj_of o.paragraph ≡ Ok o → seen o ≡ shown o.key (public_of o)
seen_shown o e =
    let good : IsGood o.paragraph o = good_object o.paragraph o e in
    let key : o.key ≡ good.key = ap (λ x. x.key) good.value ∙ key_at good.key o.paragraph in
    ap seen good.value ∙ seen_at good.key o.paragraph
    ∙ (λ i. shown (sym key i) (sym (public_at o) i))

-- objects of one key that are equal in public are seen alike
pub seen_alike : (x y : Obj) → obj_of x.paragraph ≡ Ok x → obj_of y.paragraph ≡ Ok y →
    x.key ≡ y.key → public_of x ≡ public_of y → seen x ≡ seen y
seen_alike x y e f key public = seen_shown x e ∙ (λ i. shown (key i) (public i))
    ∙ sym (seen_shown y f)
