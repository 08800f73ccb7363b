-- The keys that texts and paragraphs spell are well formed.
use Rattle.std.proofs.Common.{◌≡◌, ℕ, ◌+◌, ◌<◌, ◌^◌, List, [], ◌∷◌, Option, Some, None, Ok, Bool}
use Rattle.std.proofs.Common.{true, false, not, ◌&&◌, cond, refl, sym, subst, arith, ⊎_elim}
use Rattle.std.proofs.lemmas.Bool.{and_parts}
use Rattle.std.proofs.lemmas.Option.{cond_some, option_and_then_some}
use Rattle.std.specs.Option.{option_map}
use Rattle.rr_bytes.specs.LetterCase.{upper}
use Rattle.rr_text.specs.Fields.{Field}
use Rattle.rr_text.specs.Meanings.{value_meaning}
use Rattle.rr_number.specs.Addresses.{IsAddress}
use Rattle.rr_number.specs.AsNumbers.{as_number_of, greatest_as_number}
use Rattle.rr_number.specs.AsSpans.{IsAsSpan, IsAsSpanText, as_span_of}
use Rattle.rr_number.specs.Names.{IsUpperName, is_maintainer_name, maintainer_name_of, name_of}
use Rattle.rr_number.specs.Prefixes.{IsMasked, IsPrefix, PrefixParts, prefix_of}
use Rattle.rr_number.specs.SetNames.{IsSetText, is_any_set, is_set_name, kind_of, set_name_of}
use Rattle.rr_number.specs.SetNames.{set_text}
use Rattle.rr_number.specs.Spans.{Ends, IsSpan}
use Rattle.rr_number.specs.EndsTexts.{IsEndsText}
use Rattle.rr_number.specs.SpanTexts.{IsPrefixSpan, spelled_span}
use Rattle.rr_number.specs.declared.set_kind.SetKind.{SetKind}
use Rattle.rr_number.specs.declared.set_kind.SetKind.TheVariants as kinds
use Rattle.rr_number.proofs.AsNumberLemmas.{as_number_of-bound}
use Rattle.rr_number.proofs.AsSpanLemmas.{as_span_of-spelled}
use Rattle.rr_number.proofs.NameLemmas.{name_of-kept}
use Rattle.rr_number.proofs.PrefixLemmas.{prefix_of-spelled}
use Rattle.rr_number.proofs.PrefixSpans.{IsMasked-masked, IsSpan-prefix}
use Rattle.rr_number.proofs.SetNameLemmas.{IsSetText-set_text}
use Rattle.rr_number.proofs.SpanTextLemmas.{spelled_span-spelled}
use Rattle.rr_object.specs.declared.class.Class.{Class}
use Rattle.rr_object.specs.declared.class.Class.TheVariants as class
use Rattle.rr_object.specs.declared.key.Key.{Key}
use Rattle.rr_object.specs.declared.key.Key.TheVariants.{Mntner, AsBlock, AutNum, Inetnum, Route}
use Rattle.rr_object.specs.declared.key.Key.TheVariants.{AsSet, RouteSet}
use Rattle.rr_object.specs.declared.kind.Kind.TheVariants.{Origin}
use Rattle.rr_object.specs.Classes.{class_named}
use Rattle.rr_bytes.specs.Parts.{words}
use Rattle.rr_object.specs.Items.{only, values_of}
use Rattle.rr_object.specs.KeyOrders.{HasKeyParts, IsKeyValue, IsSetKey}
use Rattle.rr_object.specs.KeySpellings.{as_set_key_of, key_at, key_in, key_of, key_of_text}
use Rattle.rr_object.specs.KeySpellings.{or_bad_key, route_key_of, route_key_of_words}
use Rattle.rr_object.specs.KeySpellings.{route_set_key_of}
use Rattle.rr_object.specs.Kinds.{kind_name}
use Rattle.rr_object.specs.Members.{is_as_set_kind}
use Rattle.rr_object.specs.Objects.{Obj}
use Rattle.rr_object.specs.Readings.{obj_of, object_of}
use Rattle.rr_object.proofs.Parsed.{kept_its_key, of_any_source}

-- a well formed key has the parts of one
pub has_parts : (k : Key) → IsKeyValue k → HasKeyParts k
has_parts (Mntner n) is = is
has_parts (AsBlock s) is = is
has_parts (AutNum n) is = is
has_parts (Inetnum s) is = is
has_parts (Route p n) is = is
has_parts (AsSet n) is = is.text
has_parts (RouteSet n) is = is.text

after_test : (t : Bool) (o : Option (List ℕ)) (name : List ℕ) → cond t o None ≡ Some name →
    o ≡ Some name
after_test true o name e = e
after_test false o name e = absurd (cc)

maintainer_formed : (text name : List ℕ) → maintainer_name_of text ≡ Some name → IsUpperName name
maintainer_formed text name e = name_of-kept text name
    (after_test (is_maintainer_name (upper text)) (name_of text) name e)

block_formed : (text : List ℕ) (s : Ends) → as_span_of text ≡ Some s → IsAsSpan s
block_formed text s e =
    let spelled : IsAsSpanText text s = as_span_of-spelled text s e in
    let fits : s.last < greatest_as_number + 1 = spelled.last.number.fits in
    record { ordered = spelled.ordered; bound = omega arith }

address_fits : (text : List ℕ) (n : ℕ) → IsAddress text n → n < 2 ^ 32
address_fits text n is =
    let value = is.value in
    let w : is.w < 256 = is.first.fits in
    let x : is.x < 256 = is.second.fits in
    let y : is.y < 256 = is.third.fits in
    let z : is.z < 256 = is.fourth.fits in
    omega arith

spelled_masked : (text : List ℕ) (p : PrefixParts) → IsPrefix text p → IsMasked p
spelled_masked text p is =
    let few : is.length < 33 = is.second.fits in
    subst IsMasked (sym is.value)
    (IsMasked-masked is.address is.length (address_fits is.address_text is.address is.first)
    (omega arith))

prefix_formed : (text : List ℕ) (p : PrefixParts) → prefix_of text ≡ Some p → IsMasked p
prefix_formed text p e = spelled_masked text p (prefix_of-spelled text p e)

prefix_span_formed : (text : List ℕ) (s : Ends) → IsPrefixSpan text s → IsSpan s
prefix_span_formed text s is = subst IsSpan (sym is.value)
    (IsSpan-prefix is.prefix (spelled_masked text is.prefix is.spelled))

pair_formed : (text : List ℕ) (s : Ends) → IsEndsText IsAddress text s → IsSpan s
pair_formed text s is = record {
  ordered = is.ordered;
  fits = address_fits is.last_text s.last
      is.last;
}

span_formed : (text : List ℕ) (s : Ends) → spelled_span text ≡ Some s → IsSpan s
span_formed text s e = ⊎_elim (pair_formed text s) (prefix_span_formed text s)
    (spelled_span-spelled text s e)

set_formed : (text name : List ℕ) → set_name_of text ≡ Some name → IsSetText name
set_formed text name e =
    let parts = cond_some (is_set_name text) (set_text text) name e in
    subst IsSetText parts.1 (IsSetText-set_text text parts.0)

as_set_kind : (k : SetKind) → is_as_set_kind k ≡ true → k ≡ kinds.AsSet
as_set_kind kinds.AsSet e = refl
as_set_kind kinds.RouteSet e = cc

route_set_kind : (k : SetKind) → not (is_as_set_kind k) ≡ true → k ≡ kinds.RouteSet
route_set_kind kinds.AsSet e = cc
route_set_kind kinds.RouteSet e = refl

not_true : (a : Bool) → not a ≡ true → a ≡ false
not_true true e = cc
not_true false e = refl

as_set_formed : (text name : List ℕ) → as_set_key_of text ≡ Some name → IsSetKey kinds.AsSet name
as_set_formed text name e =
    option_and_then_some _ (set_name_of text) name e (λ x is_x test.
    let chosen = cond_some (is_as_set_kind (kind_of x) && not (is_any_set x)) x name test in
    let parts = and_parts (is_as_set_kind (kind_of x)) (not (is_any_set x)) chosen.0 in
    subst (IsSetKey kinds.AsSet) chosen.1 (record {
      text = set_formed text x is_x;
      of_kind = as_set_kind (kind_of x) parts.0;
      no_any = not_true (is_any_set x) parts.1;
    }))

route_set_formed : (text name : List ℕ) → route_set_key_of text ≡ Some name →
    IsSetKey kinds.RouteSet name
route_set_formed text name e =
    option_and_then_some _ (set_name_of text) name e (λ x is_x test.
    let chosen = cond_some (not (is_as_set_kind (kind_of x)) && not (is_any_set x)) x name test in
    let parts = and_parts (not (is_as_set_kind (kind_of x))) (not (is_any_set x)) chosen.0 in
    subst (IsSetKey kinds.RouteSet) chosen.1 (record {
      text = set_formed text x is_x;
      of_kind = route_set_kind (kind_of x) parts.0;
      no_any = not_true (is_any_set x) parts.1;
    }))

-- a key that is made of a part is well formed where that is so of each part that was read
made_formed : {A : Type 0} (make : A → Key) (part : Option A) (key : Key) →
    ((a : A) → part ≡ Some a → IsKeyValue (make a))
    → option_map make part ≡ Some key → IsKeyValue key
made_formed make None key of e = absurd (cc)
made_formed make (Some a) key of e =
    let same : make a ≡ key = cc in
    subst IsKeyValue same (of a refl)

route_formed : (prefix origin : List ℕ) (key : Key) → route_key_of prefix origin ≡ Some key →
    IsKeyValue key
route_formed prefix origin key e =
    option_and_then_some _ (prefix_of prefix) key e (λ p is_p rest.
    made_formed (Route p) (as_number_of origin) key
    (λ n is_n. record {
      masked = prefix_formed prefix p is_p;
      numbered = as_number_of-bound origin
          n is_n;
    }) rest)

route_words_formed : (found : List (List ℕ)) (key : Key) → route_key_of_words found ≡ Some key →
    IsKeyValue key
route_words_formed [] key e = absurd (cc)
route_words_formed (prefix ∷ []) key e = absurd (cc)
route_words_formed (prefix ∷ (origin ∷ [])) key e = route_formed prefix origin key e
route_words_formed (prefix ∷ (origin ∷ (other ∷ others))) key e = absurd (cc)

-- the key that a text spells is well formed
pub text_key_formed : (found : Class) (text : List ℕ) (key : Key) → key_of_text found text
    ≡ Some key → IsKeyValue key
unfolding key_of_text
text_key_formed class.Mntner text key e = made_formed Mntner (maintainer_name_of text) key
    (maintainer_formed text) e
text_key_formed class.AsBlock text key e = made_formed AsBlock (as_span_of text) key
    (block_formed text) e
text_key_formed class.AutNum text key e = made_formed AutNum (as_number_of text) key
    (as_number_of-bound text) e
text_key_formed class.Inetnum text key e = made_formed Inetnum (spelled_span text) key
    (span_formed text) e
text_key_formed class.Route text key e = route_words_formed (words text) key e
text_key_formed class.AsSet text key e = made_formed AsSet (as_set_key_of text) key
    (as_set_formed text) e
text_key_formed class.RouteSet text key e = made_formed RouteSet (route_set_key_of text) key
    (route_set_formed text) e

-- so is the key at a paragraph's class attribute
key_at_formed : (found : Class) (text : List ℕ) (fields : List Field) (key : Key) →
    key_at found text fields ≡ Some key → IsKeyValue key
unfolding key_at
key_at_formed class.Mntner text fields key e = text_key_formed class.Mntner text key e
key_at_formed class.AsBlock text fields key e = text_key_formed class.AsBlock text key e
key_at_formed class.AutNum text fields key e = text_key_formed class.AutNum text key e
key_at_formed class.Inetnum text fields key e = text_key_formed class.Inetnum text key e
key_at_formed class.Route text fields key e =
    option_and_then_some _ (only (values_of (kind_name Origin) fields)) key e
    (λ origin is_origin rest. route_formed text origin key rest)
key_at_formed class.AsSet text fields key e = text_key_formed class.AsSet text key e
key_at_formed class.RouteSet text fields key e = text_key_formed class.RouteSet text key e

told_formed : (part : Option Key) (key : Key) → ((k : Key) → part ≡ Some k → IsKeyValue k) →
    or_bad_key part ≡ Ok key → IsKeyValue key
told_formed None key of e = absurd (cc)
told_formed (Some k) key of e =
    let same : k ≡ key = cc in
    subst IsKeyValue same (of k refl)

in_formed : (found : Option Class) (text : List ℕ) (fields : List Field) (key : Key) →
    key_in found text fields ≡ Ok key → IsKeyValue key
in_formed None text fields key e = absurd (cc)
in_formed (Some found) text fields key e =
    told_formed (key_at found text fields) key (λ k is. key_at_formed found text fields k is) e

-- the key of a paragraph is well formed, and that of an object
pub key_formed : (fields : List Field) (key : Key) → key_of fields ≡ Ok key → IsKeyValue key
unfolding key_of
key_formed [] key e = absurd (cc)
key_formed (first ∷ others) key e = in_formed (class_named first.name) (value_meaning first.lines)
    (first ∷ others) key e

pub obj_key_formed : (fields : List Field) (object : Obj) → obj_of fields ≡ Ok object →
    IsKeyValue object.key
obj_key_formed fields object e = key_formed fields object.key (kept_its_key fields object e)

pub object_key_formed : (fields : List Field) (source : List ℕ) (object : Obj) →
    object_of fields source ≡ Ok object → IsKeyValue object.key
object_key_formed fields source object e = obj_key_formed fields object
    (of_any_source fields source object e)
