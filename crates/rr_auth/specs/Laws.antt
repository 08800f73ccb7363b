-- What every verdict keeps, and what is closest in a registry: laws of `src/laws.rt`. `judge` and
-- `rr_registry` cite `IsItem`, and `rr_submission` cites `key_about`.
use Rattle.std.specs.Prelude.{◌≡◌, ◌&&◌, ℕ, true, false, not, List, Some}
use Rattle.std.specs.Prelude.{if◌then◌else◌, is_none}
use Rattle.std.specs.List.{list_any}
use Rattle.std.specs.FinMap.{get, values}
use Rattle.std.specs.Option.{option_map_or}
use Rattle.std.specs.Str.{bytes_eq}
use Rattle.rr_number.specs.Prefixes.{PrefixParts, span_of}
use Rattle.rr_number.specs.Spans.{Ends, IsSpan}
use Rattle.rr_object.specs.KeyOrders.{IsKeyValue}
use Rattle.rr_object.specs.declared.code.Code.{Code}
use Rattle.rr_object.specs.declared.key.Key.{Key}
use Rattle.rr_object.specs.declared.key.Key.TheVariants.{Route}
use Rattle.rr_object.specs.Objects.{Obj}
use Rattle.rr_auth.specs.declared.item.Item.{Item}
use Rattle.rr_auth.specs.declared.item.Item.TheVariants.{Submit, Delete}
use Rattle.rr_auth.specs.declared.verdict.Verdict.{Verdict}
use Rattle.rr_auth.specs.declared.verdict.Verdict.TheVariants.{Refuse}
use Rattle.rr_auth.specs.Authority.{routes_pass}
use Rattle.rr_auth.specs.Closest.{block_span, closest_block, closest_inetnum, closest_route_prefix}
use Rattle.rr_auth.specs.Closest.{inetnum_span, is_closest, is_cover, route_prefix, route_span}
use Rattle.rr_auth.specs.Conditions.{cover_refuses}
use Rattle.rr_auth.specs.Passing.{names_pass}
use Rattle.rr_auth.specs.Registries.{Reg, Sound}
use Rattle.rr_auth.specs.Sources.{IsReadIn, IsRegistryOf}
use Rattle.rr_auth.specs.Verdicts.{fits_item, verdict, step}

-- The key of an object that is submitted is well formed; of a key to be deleted nothing is said.
abbrev pub IsItem : Item → Type 0
IsItem (Submit o) = IsKeyValue o.key
IsItem (Delete k) = Unit {0}

-- An item that is refused leaves the registry as it was.
abbrev pub RefusalLeaves : Type 0
RefusalLeaves =
    (r : Reg) (secrets : List (List ℕ)) (i : Item) (code : Code)
    → verdict r secrets i ≡ Refuse code
    → step r secrets i ≡ r

-- A sound registry stays sound, whatever item comes whose object, if it submits one, has a key that
-- is well formed.
abbrev pub StaysSound : Type 0
StaysSound =
    (r : Reg) (secrets : List (List ℕ)) (i : Item) → Sound r → IsItem i
    → Sound (step r secrets i)

-- A registry of a source stays one, whatever item comes that is read in that source.
abbrev pub StaysOfSource : Type 0
StaysOfSource =
    (source : List ℕ) (r : Reg) (secrets : List (List ℕ)) (i : Item)
    → IsRegistryOf source r → IsReadIn source i
    → IsRegistryOf source (step r secrets i)

-- The verdict on an item is one of those that are given on such an item. On one that submits an
-- object it is never a deletion. On one that deletes an object it is never an addition, a change or
-- no change.
abbrev pub VerdictsFitItems : Type 0
VerdictsFitItems =
    (r : Reg) (secrets : List (List ℕ)) (i : Item) → fits_item i (verdict r secrets i) ≡ true

-- A verdict is a refusal, with some code.
pub record IsRefusal (v : Verdict) : Type 0 where
  pub code : Code
  pub is : v ≡ Refuse code

-- What an item is about: the key of the object that is submitted, or the key that is deleted.
abbrev pub key_about : Item → Key
key_about (Submit o) = o.key
key_about (Delete k) = k

-- An item about a registered key is refused where the mnt-by of what stands there does not pass,
-- whatever the item names in its place (RFC 2725, 9).
abbrev pub StoredNamesDecide : Type 0
StoredNamesDecide =
    (r : Reg) (secrets : List (List ℕ)) (i : Item) (stored : Obj)
    → get r (key_about i) ≡ Some stored
    → names_pass r secrets stored.maintainers ≡ false → IsRefusal (verdict r secrets i)

-- Two lists hold the same secrets, in whatever order and however often each.
abbrev pub SameSecrets : List (List ℕ) → List (List ℕ) → Type 0
SameSecrets secrets others =
    (secret : List ℕ) → list_any (bytes_eq secret) secrets ≡ list_any (bytes_eq secret) others

-- Secrets are a set: a verdict depends on which are given, and on nothing else of their list.
abbrev pub SecretsAreASet : Type 0
SecretsAreASet =
    (r : Reg) (secrets others : List (List ℕ)) (i : Item) → SameSecrets secrets others
    → verdict r secrets i ≡ verdict r others i

-- In a sound registry there is one closest inetnum to a span at most: each registered one that is
-- closest is that of `closest_inetnum`.
abbrev pub OneClosestInetnum : Type 0
OneClosestInetnum =
    (r : Reg) (s : Ends) (k : Key) (o : Obj) → Sound r → IsSpan s → get r k ≡ Some o
    → is_closest inetnum_span (values r) s o ≡ true → closest_inetnum r s ≡ Some o

-- In a sound registry there is one closest as-block to a span at most: each registered one that is
-- closest is that of `closest_block`.
abbrev pub OneClosestBlock : Type 0
OneClosestBlock =
    (r : Reg) (s : Ends) (k : Key) (o : Obj) → Sound r → IsSpan s → get r k ≡ Some o
    → is_closest block_span (values r) s o ≡ true → closest_block r s ≡ Some o

-- In a sound registry all closest routes to a prefix have one prefix, that of
-- `closest_route_prefix`.
abbrev pub ClosestRoutesAgree : Type 0
ClosestRoutesAgree =
    (r : Reg) (p : PrefixParts) (k : Key) (o : Obj) → Sound r → get r k ≡ Some o
    → is_closest route_span (values r) (span_of p) o ≡ true
    → closest_route_prefix r p ≡ route_prefix o.key

-- A span has no closest inetnum exactly where no inetnum of the registry covers the span; likewise
-- it has no closest as-block, and a prefix no closest routes (RFC 2725, 9).
pub record IsClosestWhereCovered (r : Reg) : Type 0 where
  pub inetnums : (s : Ends)
      → is_none (closest_inetnum r s) ≡ not (list_any (is_cover inetnum_span s) (values r))
  pub blocks : (s : Ends)
      → is_none (closest_block r s) ≡ not (list_any (is_cover block_span s) (values r))
  pub routes : (p : PrefixParts)
      → is_none (closest_route_prefix r p)
      ≡ not (list_any (is_cover route_span (span_of p)) (values r))

-- In every registry, sound or not, nothing is closest exactly where nothing covers: so E12 is as
-- RFC 2725, 9 words it.
abbrev pub NothingClosestIsUncovered : Type 0
NothingClosestIsUncovered = (r : Reg) → IsClosestWhereCovered r

-- In a sound registry E13 holds of a route exactly in two cases. Some route covers it, and the
-- names that decide about it pass for no closest route. Or no route covers it, and they do not pass
-- for the closest inetnum, or there is none.
abbrev pub RoutesAskTheClosest : Type 0
RoutesAskTheClosest =
    (r : Reg) (secrets : List (List ℕ)) (p : PrefixParts) (n : ℕ) → Sound r
    → cover_refuses r secrets (Route p n) ≡ not (
    if list_any (is_cover route_span (span_of p)) (values r)
    then list_any
    (λ x. is_closest route_span (values r) (span_of p) x && routes_pass r secrets p x) (values r)
    else option_map_or (routes_pass r secrets p) (closest_inetnum r (span_of p)) false)
