-- The paragraphs of the opening objects are read as objects.
-- Each object goes through every check of reading: key, counts, texts, authority, memberships and
-- source. The two blocks share theirs. Literal texts compute, but names come from the settings, so
-- what they mean is rewritten by hand in each check. The functions of `opening`,
-- `OpeningRegistry`, `Grown` and `Sources` need it.
use Rattle.std.proofs.Common.{◌≡◌, ℕ, true, false, not, List, [], ◌∷◌, ◌++◌, Some, Result, Ok, Err}
use Rattle.std.proofs.Common.{refl, codes, arith, IfOk}
use Rattle.std.specs.List.{list_any}
use Rattle.rr_bytes.specs.Blanks.{is_blank_or_line_feed, is_line_feed}
use Rattle.rr_bytes.specs.NameBytes.{is_attribute_name}
use Rattle.rr_text.specs.Bytes.{is_refused}
use Rattle.std.specs.Str.{bytes_eq}
use Rattle.rr_bytes.specs.Cuts.{cut_at}
use Rattle.rr_bytes.specs.LetterCase.{lowered}
use Rattle.rr_bytes.specs.Trims.{trim, trim_end, trim_start}
use Rattle.rr_number.specs.Addresses.{address_of, joined_of}
use Rattle.rr_number.specs.AsNumbers.{as_number_of}
use Rattle.rr_number.specs.AsSpans.{as_span_of}
use Rattle.rr_number.specs.Dashes.{dashed_of}
use Rattle.rr_number.specs.EndsTexts.{ends_between}
use Rattle.rr_number.specs.Numerals.{number_of}
use Rattle.rr_number.specs.Spans.{Ends}
use Rattle.rr_number.specs.SpanTexts.{spelled_span}
use Rattle.rr_number.proofs.NameLemmas.{name_of-upper_name}
use Rattle.rr_text.specs.Fields.{AreFields, Field, IsField, IsLine, one_line}
use Rattle.rr_text.specs.Meanings.{value_meaning}
use Rattle.rr_object.specs.Grants.{grants_after}
use Rattle.rr_object.specs.Items.{items}
use Rattle.rr_object.specs.Keys.{class_of}
use Rattle.rr_object.specs.KeySpellings.{key_at, key_of, key_of_text}
use Rattle.rr_object.specs.Kinds.{occurs}
use Rattle.rr_object.specs.Objects.{Obj, names_of}
use Rattle.rr_object.specs.Readings.{has_bad_authority, has_bad_membership, has_bad_text}
use Rattle.rr_object.specs.Readings.{has_bad_value, is_from, is_miscounted, items_of, items_read}
use Rattle.rr_object.specs.Readings.{obj_at, obj_of, object_of, source_of, ReadsAs}
use Rattle.rr_object.specs.declared.class.Class.TheVariants as class
use Rattle.rr_object.specs.declared.key.Key.{Key}
use Rattle.rr_object.specs.declared.key.Key.TheVariants.{Mntner, AsBlock, Inetnum}
use Rattle.rr_object.specs.declared.kind.Kind.TheVariants.{MntBy, Source, Auth, MntLower, MntRoutes}
use Rattle.rr_store.specs.Migrating.{upper_block}
use Rattle.rr_desk.specs.Opening.{AreOpening, addresses_fields, auth_line, numbers_fields}
use Rattle.rr_desk.specs.Opening.{owner_fields, root_fields}
use Rattle.rr_desk.specs.Private.{IsParagraphOf, HasObject}
use Rattle.rr_desk.specs.Settings.{IsSettings, SettingsParts}
use Rattle.rr_desk.proofs.PlainTexts.{IsShown, shown_line, shown_meaning}
use Rattle.rr_desk.proofs.OpeningLines.{auth_read, equal_texts, maintainer_read, one_item}
use Rattle.rr_desk.proofs.OpeningLines.{plain_name, shown_auth, shown_name}

-- a paragraph without a fault is the object of its key
read_as : (fields : List Field) (source : List ℕ) (key : Key) → key_of fields ≡ Ok key →
    is_miscounted (class_of key) fields ≡ false
    → has_bad_value (class_of key) fields ≡ false → is_from source fields ≡ true →
    object_of fields source ≡ Ok (obj_at key fields)
unfolding object_of obj_of
read_as fields source key read counted spelled own = rw (read, counted, spelled, own) refl

-- the attributes of an opening object: its own, and those that it ends in
abbrev pub span_fields : List ℕ → List ℕ → SettingsParts → List Field
span_fields name line s = one_line name line ∷ owner_fields s

root_means : (s : SettingsParts) → IsSettings s → value_meaning (s.root ∷ []) ≡ s.root
root_means s is = shown_meaning s.root (shown_name s.root is.root.spelled)

source_means : (s : SettingsParts) → IsSettings s → value_meaning (s.source ∷ []) ≡ s.source
source_means s is = shown_meaning s.source (shown_name s.source is.source.spelled)

auth_means : (s : SettingsParts) → IsSettings s → value_meaning (auth_line s.auth ∷ []) ≡ auth_line
    s.auth
auth_means s is = shown_meaning (auth_line s.auth) (shown_auth s.auth is.auth)

-- the items of the root maintainer
root_maintained : (s : SettingsParts) → IsSettings s → items_of MntBy (root_fields s) ≡ s.root ∷ []
unfolding items_of
root_maintained s is = rw (root_means s is, one_item s.root (plain_name s.root is.root.spelled))
    refl

root_sources : (s : SettingsParts) → IsSettings s → items_of Source (root_fields s) ≡ s.source ∷ []
unfolding items_of
root_sources s is =
    rw (source_means s is, one_item s.source (plain_name s.source is.source.spelled)) refl

root_auths : (s : SettingsParts) → IsSettings s → items_of Auth (root_fields s) ≡ auth_line s.auth
    ∷ []
unfolding items_of
root_auths s is = rw (auth_means s is) refl

root_source : (s : SettingsParts) → IsSettings s → source_of (root_fields s) ≡ Some s.source
root_source s is = rw (source_means s is, name_of-upper_name s.source is.source) refl

root_key : (s : SettingsParts) → IsSettings s → key_of (root_fields s) ≡ Ok (Mntner s.root)
unfolding key_of key_at key_of_text
root_key s is = rw (root_means s is, maintainer_read s.root is.root is.maintainer) refl

root_counted : (s : SettingsParts) → IsSettings s → is_miscounted class.Mntner (root_fields s)
    ≡ false
unfolding is_miscounted occurs
root_counted s is = rw (root_maintained s is, root_sources s is, root_auths s is) refl

root_texts : (s : SettingsParts) → IsSettings s → has_bad_text (root_fields s) ≡ false
unfolding has_bad_text
root_texts s is = rw (root_source s is) refl

root_authority : (s : SettingsParts) → IsSettings s → has_bad_authority class.Mntner
    (root_fields s) ≡ false
unfolding has_bad_authority items_read occurs grants_after
root_authority s is =
    rw (
      root_maintained s is,
      root_auths s is,
      maintainer_read s.root is.root is.maintainer,
      auth_read s.auth is.auth,
    ) refl

root_memberships : (s : SettingsParts) → has_bad_membership class.Mntner (root_fields s) ≡ false
unfolding has_bad_membership items_read occurs
root_memberships s = refl

root_spelled : (s : SettingsParts) → IsSettings s → has_bad_value class.Mntner (root_fields s)
    ≡ false
unfolding has_bad_value
root_spelled s is = rw (root_texts s is, root_authority s is, root_memberships s) refl

root_own : (s : SettingsParts) → IsSettings s → is_from s.source (root_fields s) ≡ true
root_own s is = rw (root_source s is) (equal_texts s.source)

-- the root maintainer's paragraph is the mntner of its name
abbrev pub root_object : SettingsParts → Obj
root_object s = obj_at (Mntner s.root) (root_fields s)

pub root_read : (s : SettingsParts) → IsSettings s → object_of (root_fields s) s.source
    ≡ Ok (root_object s)
root_read s is = read_as (root_fields s) s.source (Mntner s.root) (root_key s is)
    (root_counted s is) (root_spelled s is) (root_own s is)

pub root_named : (s : SettingsParts) → IsSettings s → names_of (root_object s) ≡ s.root ∷ []
unfolding obj_at items_read occurs grants_after
root_named s is = rw (root_maintained s is, maintainer_read s.root is.root is.maintainer) refl

-- the items of an opening object of another class
span_maintained : (name line : List ℕ) (s : SettingsParts) → IsSettings s →
    bytes_eq name (codes "mnt-by") ≡ false → items_of MntBy (span_fields name line s) ≡ s.root ∷ []
unfolding items_of
span_maintained name line s is other =
    rw (other, root_means s is, one_item s.root (plain_name s.root is.root.spelled)) refl

span_sources : (name line : List ℕ) (s : SettingsParts) → IsSettings s →
    bytes_eq name (codes "source") ≡ false → items_of Source (span_fields name line s) ≡ s.source
    ∷ []
unfolding items_of
span_sources name line s is other =
    rw (other, source_means s is, one_item s.source (plain_name s.source is.source.spelled)) refl

span_source : (name line : List ℕ) (s : SettingsParts) → IsSettings s →
    bytes_eq name (codes "source") ≡ false → source_of (span_fields name line s) ≡ Some s.source
span_source name line s is other =
    rw (other, source_means s is, name_of-upper_name s.source is.source) refl

-- a block of AS numbers
abbrev pub block_fields : List ℕ → SettingsParts → List Field
block_fields line s = span_fields (codes "as-block") line s

block_maintained : (line : List ℕ) (s : SettingsParts) → IsSettings s →
    items_of MntBy (block_fields line s) ≡ s.root ∷ []
block_maintained line s is = span_maintained (codes "as-block") line s is refl

block_lower : (line : List ℕ) (s : SettingsParts) → items_of MntLower (block_fields line s) ≡ []
unfolding items_of items
block_lower line s = refl

block_counted : (line : List ℕ) (s : SettingsParts) → IsSettings s → is_miscounted class.AsBlock
    (block_fields line s) ≡ false
unfolding is_miscounted occurs
block_counted line s is = rw (
  block_maintained line s is,
  span_sources (codes "as-block") line s is
      refl,
) refl

block_texts : (line : List ℕ) (s : SettingsParts) → IsSettings s →
    has_bad_text (block_fields line s) ≡ false
unfolding has_bad_text
block_texts line s is = rw (span_source (codes "as-block") line s is refl) refl

block_authority : (line : List ℕ) (s : SettingsParts) → IsSettings s →
    has_bad_authority class.AsBlock (block_fields line s) ≡ false
unfolding has_bad_authority items_read occurs grants_after
block_authority line s is =
    rw (
      block_maintained line s is,
      block_lower line s,
      maintainer_read s.root is.root
          is.maintainer,
    ) refl

block_memberships : (line : List ℕ) (s : SettingsParts) → has_bad_membership class.AsBlock
    (block_fields line s) ≡ false
unfolding has_bad_membership items_read occurs
block_memberships line s = refl

block_spelled : (line : List ℕ) (s : SettingsParts) → IsSettings s → has_bad_value class.AsBlock
    (block_fields line s) ≡ false
unfolding has_bad_value
block_spelled line s is = rw (
  block_texts line s is,
  block_authority line s is,
  block_memberships line s,
) refl

block_own : (line : List ℕ) (s : SettingsParts) → IsSettings s →
    is_from s.source (block_fields line s) ≡ true
block_own line s is = rw (span_source (codes "as-block") line s is refl) (equal_texts s.source)

-- a block's paragraph is its object
abbrev pub block_object : Ends → List ℕ → SettingsParts → Obj
block_object block line s = obj_at (AsBlock block) (block_fields line s)

block_read : (block : Ends) (line : List ℕ) (s : SettingsParts) → IsSettings s →
    key_of (block_fields line s) ≡ Ok (AsBlock block)
    → object_of (block_fields line s) s.source ≡ Ok (block_object block line s)
block_read block line s is key =
    read_as (block_fields line s) s.source (AsBlock block) key (block_counted line s is)
    (block_spelled line s is) (block_own line s is)

pub block_named : (block : Ends) (line : List ℕ) (s : SettingsParts) → IsSettings s →
    names_of (block_object block line s) ≡ s.root ∷ []
unfolding obj_at items_read occurs grants_after
block_named block line s is =
    rw (
      block_maintained line s is,
      block_lower line s,
      maintainer_read s.root is.root
          is.maintainer,
    ) refl

-- the two blocks
abbrev pub numbers : Ends
numbers = record { first = 0; last = 65535 }

abbrev pub upper_span : Ends
upper_span = record { first = 65536; last = 4294967295 }

numbers_key : (s : SettingsParts) → key_of (numbers_fields s) ≡ Ok (AsBlock numbers)
unfolding key_of key_at key_of_text value_meaning trim_end trim_start as_span_of ends_between
    dashed_of cut_at as_number_of number_of
numbers_key s = refl

upper_key : (s : SettingsParts) → key_of (upper_block s.root s.source) ≡ Ok (AsBlock upper_span)
unfolding key_of key_at key_of_text value_meaning trim_end trim_start as_span_of ends_between
    dashed_of cut_at as_number_of number_of
upper_key s = refl

pub numbers_read : (s : SettingsParts) → IsSettings s → object_of (numbers_fields s) s.source
    ≡ Ok (block_object numbers (codes "AS0 - AS65535") s)
numbers_read s is = block_read numbers (codes "AS0 - AS65535") s is (numbers_key s)

pub upper_read : (s : SettingsParts) → IsSettings s → object_of (upper_block s.root s.source)
    s.source ≡ Ok (block_object upper_span (codes "AS65536 - AS4294967295") s)
upper_read s is = block_read upper_span (codes "AS65536 - AS4294967295") s is (upper_key s)

-- the span of all addresses
addresses_maintained : (s : SettingsParts) → IsSettings s → items_of MntBy (addresses_fields s)
    ≡ s.root ∷ []
addresses_maintained s is = span_maintained (codes "inetnum") (codes "0.0.0.0 - 255.255.255.255") s
    is refl

addresses_source : (s : SettingsParts) → IsSettings s → source_of (addresses_fields s)
    ≡ Some s.source
addresses_source s is = span_source (codes "inetnum") (codes "0.0.0.0 - 255.255.255.255") s is refl

addresses_lower : (s : SettingsParts) → items_of MntLower (addresses_fields s) ≡ []
unfolding items_of items
addresses_lower s = refl

addresses_routes : (s : SettingsParts) → items_of MntRoutes (addresses_fields s) ≡ []
unfolding items_of items
addresses_routes s = refl

addresses_counted : (s : SettingsParts) → IsSettings s → is_miscounted class.Inetnum
    (addresses_fields s) ≡ false
unfolding is_miscounted occurs
addresses_counted s is =
    rw (
      addresses_maintained s is,
      span_sources (codes "inetnum")
          (codes "0.0.0.0 - 255.255.255.255") s is refl,
    ) refl

addresses_texts : (s : SettingsParts) → IsSettings s → has_bad_text (addresses_fields s) ≡ false
unfolding has_bad_text
addresses_texts s is = rw (addresses_source s is) refl

addresses_authority : (s : SettingsParts) → IsSettings s → has_bad_authority class.Inetnum
    (addresses_fields s) ≡ false
unfolding has_bad_authority items_read occurs grants_after
addresses_authority s is =
    rw (
      addresses_maintained s is,
      addresses_lower s,
      addresses_routes s,
      maintainer_read s.root
          is.root is.maintainer,
    ) refl

addresses_memberships : (s : SettingsParts) → has_bad_membership class.Inetnum (addresses_fields s)
    ≡ false
unfolding has_bad_membership items_read occurs
addresses_memberships s = refl

addresses_spelled : (s : SettingsParts) → IsSettings s → has_bad_value class.Inetnum
    (addresses_fields s) ≡ false
unfolding has_bad_value
addresses_spelled s is = rw (
  addresses_texts s is,
  addresses_authority s is,
  addresses_memberships
      s,
) refl

addresses_own : (s : SettingsParts) → IsSettings s → is_from s.source (addresses_fields s) ≡ true
addresses_own s is = rw (addresses_source s is) (equal_texts s.source)

abbrev pub addresses : Ends
addresses = record { first = 0; last = 4294967295 }

addresses_key : (s : SettingsParts) → key_of (addresses_fields s) ≡ Ok (Inetnum addresses)
unfolding key_of key_at key_of_text value_meaning trim_end trim_start spelled_span ends_between
    dashed_of cut_at address_of joined_of number_of
addresses_key s = refl

abbrev pub addresses_object : SettingsParts → Obj
addresses_object s = obj_at (Inetnum addresses) (addresses_fields s)

pub addresses_read : (s : SettingsParts) → IsSettings s → object_of (addresses_fields s) s.source
    ≡ Ok (addresses_object s)
addresses_read s is =
    read_as (addresses_fields s) s.source (Inetnum addresses) (addresses_key s)
    (addresses_counted s is) (addresses_spelled s is) (addresses_own s is)

pub addresses_named : (s : SettingsParts) → IsSettings s → names_of (addresses_object s) ≡ s.root
    ∷ []
unfolding obj_at items_read occurs grants_after
addresses_named s is =
    rw (
      addresses_maintained s is,
      addresses_lower s,
      addresses_routes s,
      maintainer_read s.root
          is.root is.maintainer,
    ) refl

-- what a function answers of a paragraph, it answers of its fields
pub read_back : {E : Type 0} (source other : List ℕ) (fields given : List Field)
    (answer : Result Obj E) → fields ≡ given → source ≡ other
    → IfOk answer (IsParagraphOf source fields) → IfOk answer (IsParagraphOf other given)
read_back source other fields given (Ok object) same_fields same_source is =
    record { read = rw (← same_fields, ← same_source) is.read }
read_back source other fields given (Err fault) same_fields same_source is = tt

readable_at : (source other : List ℕ) (fields given : List Field) (object : Obj) → fields ≡ given →
    source ≡ other → object_of given other ≡ Ok object → HasObject source fields
readable_at source other fields given object same_fields same_source is =
    record { object = object; read = rw (same_fields, same_source) is }

pub root_readable : (s : SettingsParts) (source : List ℕ) (fields : List Field) → IsSettings s →
    fields ≡ root_fields s → source ≡ s.source → HasObject source fields
root_readable s source fields is same own = readable_at source s.source fields (root_fields s)
    (root_object s) same own (root_read s is)

pub numbers_readable : (s : SettingsParts) (source : List ℕ) (fields : List Field) → IsSettings s →
    fields ≡ numbers_fields s → source ≡ s.source → HasObject source fields
numbers_readable s source fields is same own = readable_at source s.source fields
    (numbers_fields s) _ same own (numbers_read s is)

-- that block can be read, so that it is never refused
pub upper_told : (s : SettingsParts) (root source : List ℕ) → IsSettings s → root ≡ s.root →
    source ≡ s.source → ReadsAs source (upper_block root source)
    (block_object upper_span (codes "AS65536 - AS4294967295") s)
upper_told s root source is of_root of_source = rw (of_root, of_source) (upper_read s is)

pub addresses_readable : (s : SettingsParts) (source : List ℕ) (fields : List Field) →
    IsSettings s → fields ≡ addresses_fields s → source ≡ s.source → HasObject source fields
addresses_readable s source fields is same own = readable_at source s.source fields
    (addresses_fields s) _ same own (addresses_read s is)

-- an attribute of one line is one where its name is good
good_line : (name line : List ℕ) → is_attribute_name name ≡ true → lowered name ≡ name →
    IsLine line → IsField (one_line name line)
good_line name line named lower good = record {
  named = named;
  lower = lower;
  some = omega arith;
  good = (good, tt);
}

literal_line : (line : List ℕ) → trim is_blank_or_line_feed line ≡ line →
    not (list_any is_line_feed line) ≡ true → not (list_any is_refused line) ≡ true → IsLine line
literal_line line trimmed unbroken clean = record {
  trimmed = trimmed;
  unbroken = unbroken;
  clean =
      clean;
}

pub numbers_line : IsField (one_line (codes "as-block") (codes "AS0 - AS65535"))
unfolding trim_start trim_end
numbers_line = good_line (codes "as-block") (codes "AS0 - AS65535") refl refl
    (literal_line (codes "AS0 - AS65535") refl refl refl)

pub addresses_line : IsField (one_line (codes "inetnum") (codes "0.0.0.0 - 255.255.255.255"))
unfolding trim_start trim_end
addresses_line = good_line (codes "inetnum") (codes "0.0.0.0 - 255.255.255.255") refl refl
    (literal_line (codes "0.0.0.0 - 255.255.255.255") refl refl refl)

-- the attributes of the root, and those that each opening object ends in, are attributes
pub named_line : (name line : List ℕ) → is_attribute_name name ≡ true → lowered name ≡ name →
    IsShown line → IsField (one_line name line)
named_line name line named lower shown = good_line name line named lower (shown_line line shown)

after_fields : (prefix back : List Field) → AreFields prefix → AreFields back →
    AreFields (prefix ++ back)
after_fields [] back prefix_good back_good = back_good
after_fields (f ∷ prefix) back prefix_good back_good =
    (prefix_good.0, after_fields prefix back prefix_good.1 back_good)

pub owned_good : (prefix : List Field) (s : SettingsParts) → AreFields prefix → IsSettings s →
    AreFields (prefix ++ owner_fields s)
owned_good prefix s good is =
    after_fields prefix (owner_fields s) good (
      named_line (codes "mnt-by") s.root refl refl (shown_name s.root is.root.spelled),
      (named_line (codes "source") s.source refl refl (shown_name s.source is.source.spelled), tt),
    )

pub root_good : (s : SettingsParts) → IsSettings s →
    AreFields (one_line (codes "mntner") s.root ∷ (one_line (codes "auth") (auth_line s.auth) ∷ []))
root_good s is = (
  named_line (codes "mntner") s.root refl refl (shown_name s.root is.root.spelled),
  (named_line (codes "auth") (auth_line s.auth) refl refl (shown_auth s.auth is.auth), tt),
)

-- four objects read so are the opening objects
pub four_open : (s : SettingsParts) (a b c d : Obj) (objects : List Obj) → objects ≡ a
    ∷ (b ∷ (c ∷ (d ∷ [])))
    → IsParagraphOf s.source (root_fields s) a → IsParagraphOf s.source (numbers_fields s) b
    → IsParagraphOf s.source (upper_block s.root s.source) c → IsParagraphOf s.source
    (addresses_fields s) d → AreOpening s objects
four_open s a b c d objects same first second third last =
    record { read = rw (same, first.read, second.read, third.read, last.read) refl }

-- put after each other they stand in order
pub in_order : (none one two three all : List Obj) (a b c d : Obj) → none ≡ [] → one ≡ none ++ a
    ∷ [] → two ≡ one ++ b ∷ [] → three ≡ two ++ c ∷ []
    → all ≡ three ++ d ∷ [] → all ≡ a ∷ (b ∷ (c ∷ (d ∷ [])))
in_order none one two three all a b c d e0 e1 e2 e3 e4 = rw (e4, e3, e2, e1, e0) refl
