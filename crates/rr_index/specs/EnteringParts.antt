-- What the private functions that enter an object promise each other. No public clause cites these.
use Rattle.std.specs.Prelude.{◌≡◌, ◌&&◌, ◌||◌, ◌+◌, ◌-◌, not, ℕ, Bool}
use Rattle.std.specs.Prelude.{false, List, Option, IsTrue}
use Rattle.std.specs.BTreeMap.{BTreeMap}
use Rattle.std.specs.BTreeSet.{BTreeSet}
use Rattle.std.specs.Option.{option_map_or}
use Rattle.rr_object.specs.declared.key.Key.{Key}
use Rattle.rr_object.specs.Objects.{Obj}
use Rattle.rr_auth.specs.Registries.{Reg}
use Rattle.rr_book.specs.SetIndexes.{is_meant, stands_under}
use Rattle.rr_book.specs.SetLists.{names_set}
use Rattle.rr_index.specs.NamingIndexes.{count_at, namings_by}
use Rattle.rr_index.specs.OriginIndexes.{HasOrigins}
use Rattle.rr_index.specs.Private.{is_crossed}
use Rattle.rr_index.specs.SpanIndexes.{HasSpans}
use Rattle.rr_index.specs.declared.indexes.Indexes.{Indexes}
use Rattle.rr_index.specs.declared.origin_index.OriginIndex.{OriginIndex}
use Rattle.rr_index.specs.declared.span_index.SpanIndex.{SpanIndex}

-- The object's key stands under none of the sets that it names.
abbrev pub IsUnderNone : BTreeMap (List ℕ) (BTreeSet Key) → Obj → Type 0
IsUnderNone sets o = (name : List ℕ) (key : Key)
    → IsTrue (is_meant o (λ other. false) name key) → stands_under sets name key ≡ false

-- No span that is held crosses the key.
abbrev pub IsUncrossed : SpanIndex → Key → Type 0
IsUncrossed of_spans k = is_crossed of_spans.inetnums of_spans.blocks k ≡ false

-- An object can be entered: its key stands under none of the sets that it names, and no inetnum and
-- no as-block that is held crosses it.
pub record CanEnter (kept : Indexes) (o : Obj) : Type 0 where
  pub fresh : IsUnderNone kept.referrers.keys o
  pub apart : IsUncrossed kept.spans o.key

-- Only what is found by an object's own key changes: spans, origins and names.
pub record ChangesOwnKeys (before after : Indexes) : Type 0 where
  pub referrers : after.referrers ≡ before.referrers
  pub namings : after.namings ≡ before.namings

-- Only the spans and the origins change.
pub record ChangesPlaces (before after : Indexes) : Type 0 where
  pub names : after.names ≡ before.names
  pub referrers : after.referrers ≡ before.referrers
  pub namings : after.namings ≡ before.namings

-- Whether the object, if there is one, names the set.
abbrev pub is_named_by : Option Obj → List ℕ → Bool
is_named_by standing name = option_map_or (names_set name) standing false

-- What an object names was entered, its key under no set that the one in whose place it comes names
-- too.
pub record HasNamed (o : Obj) (standing : Option Obj) (before after : Indexes) : Type 0 where
  pub under : (name : List ℕ) (key : Key) → stands_under after.referrers.keys name key
      ≡ (stands_under before.referrers.keys name key
      || is_meant o (is_named_by standing) name key)
  pub counts : (name : List ℕ) → count_at after.namings.counts name
      ≡ count_at before.namings.counts name + namings_by name o
  pub spans : after.spans ≡ before.spans
  pub origins : after.origins ≡ before.origins
  pub names : after.names ≡ before.names

-- What an object names was taken out, its key save from under the sets that have to stay.
pub record HasUnnamed (o : Obj) (stays : List ℕ → Bool) (before after : Indexes) : Type 0 where
  pub under : (name : List ℕ) (key : Key) → stands_under after.referrers.keys name key
      ≡ (stands_under before.referrers.keys name key && not (is_meant o stays name key))
  pub counts : (name : List ℕ) → count_at after.namings.counts name
      ≡ count_at before.namings.counts name - namings_by name o
  pub spans : after.spans ≡ before.spans
  pub origins : after.origins ≡ before.origins
  pub names : after.names ≡ before.names

-- The spans and the origins are those of the registry's objects.
abbrev pub HasPlaces : Reg → SpanIndex → OriginIndex → Type 0
HasPlaces r of_spans of_origins =
    HasSpans r of_spans.inetnums of_spans.blocks of_spans.routes × HasOrigins r of_origins.routes
