-- The keys that texts and paragraphs spell (RFC 2622, 3 to 6; profile): for queries, submissions,
-- and the reading of objects.
use Rattle.std.specs.Prelude.{ℕ, not, ◌&&◌, List, [], ◌∷◌, Option, Some, None, Result}
use Rattle.std.specs.Prelude.{Ok, Err, if◌then◌else◌}
use Rattle.std.specs.Option.{option_map, option_and_then}
use Rattle.rr_text.specs.Fields.{Field}
use Rattle.rr_text.specs.Meanings.{value_meaning}
use Rattle.rr_number.specs.Names.{maintainer_name_of}
use Rattle.rr_number.specs.AsNumbers.{as_number_of}
use Rattle.rr_number.specs.Prefixes.{prefix_of}
use Rattle.rr_number.specs.SetNames.{set_name_of, kind_of, is_any_set}
use Rattle.rr_number.specs.AsSpans.{as_span_of}
use Rattle.rr_number.specs.SpanTexts.{spelled_span}
use Rattle.rr_object.specs.declared.class.Class.{Class}
use Rattle.rr_object.specs.declared.class.Class.TheVariants as class
use Rattle.rr_object.specs.declared.key.Key.{Key}
use Rattle.rr_object.specs.declared.key.Key.TheVariants.{Mntner, AsBlock, AutNum, Inetnum, Route}
use Rattle.rr_object.specs.declared.key.Key.TheVariants.{AsSet, RouteSet}
use Rattle.rr_object.specs.declared.object_fault.ObjectFault.{ObjectFault}
use Rattle.rr_object.specs.declared.object_fault.ObjectFault.TheVariants.{UnknownClass, BadKey}
use Rattle.rr_object.specs.declared.kind.Kind.TheVariants.{Origin}
use Rattle.rr_object.specs.Classes.{class_named}
use Rattle.rr_bytes.specs.Parts.{words}
use Rattle.rr_object.specs.Items.{only, values_of}
use Rattle.rr_object.specs.Kinds.{kind_name}
use Rattle.rr_object.specs.Members.{is_as_set_kind}

-- the name of an as-set that a text spells, but not `AS-ANY` (RFC 2622, 5; profile)
abbrev pub as_set_key_of : List ℕ → Option (List ℕ)
as_set_key_of text =
    option_and_then (λ name. if is_as_set_kind (kind_of name) && not (is_any_set name)
    then Some name else None) (set_name_of text)

-- the name of a route-set that a text spells, but not `RS-ANY` (RFC 2622, 5; profile)
abbrev pub route_set_key_of : List ℕ → Option (List ℕ)
route_set_key_of text =
    option_and_then (λ name. if not (is_as_set_kind (kind_of name)) && not (is_any_set name)
    then Some name else None) (set_name_of text)

-- the key of a route that two texts spell, its prefix and its origin (RFC 2622, 4)
abbrev pub route_key_of : List ℕ → List ℕ → Option Key
route_key_of prefix origin =
    option_and_then (λ p. option_map (Route p) (as_number_of origin)) (prefix_of prefix)

-- the key of a route that these words spell, if they are two: its prefix and its origin (profile)
abbrev pub route_key_of_words : List (List ℕ) → Option Key
route_key_of_words [] = None
route_key_of_words (prefix ∷ []) = None
route_key_of_words (prefix ∷ (origin ∷ [])) = route_key_of prefix origin
route_key_of_words (prefix ∷ (origin ∷ (other ∷ others))) = None

-- the key that a text spells: for a route by two words, its prefix and its origin; else as the
-- value of an object's first attribute does (profile)
unfoldable pub key_of_text : Class → List ℕ → Option Key
key_of_text class.Mntner text = option_map Mntner (maintainer_name_of text)
key_of_text class.AsBlock text = option_map AsBlock (as_span_of text)
key_of_text class.AutNum text = option_map AutNum (as_number_of text)
key_of_text class.Inetnum text = option_map Inetnum (spelled_span text)
key_of_text class.Route text = route_key_of_words (words text)
key_of_text class.AsSet text = option_map AsSet (as_set_key_of text)
key_of_text class.RouteSet text = option_map RouteSet (route_set_key_of text)

-- the key of an object whose first attribute means this text: for a route, this prefix and the one
-- `origin` (RFC 2622, 4)
unfoldable pub key_at : Class → List ℕ → List Field → Option Key
key_at class.Mntner text fields = key_of_text class.Mntner text
key_at class.AsBlock text fields = key_of_text class.AsBlock text
key_at class.AutNum text fields = key_of_text class.AutNum text
key_at class.Inetnum text fields = key_of_text class.Inetnum text
key_at class.Route text fields =
    option_and_then (route_key_of text) (only (values_of (kind_name Origin) fields))
key_at class.AsSet text fields = key_of_text class.AsSet text
key_at class.RouteSet text fields = key_of_text class.RouteSet text

-- a key, or the fault that the key is bad (profile)
abbrev pub or_bad_key : Option Key → Result Key ObjectFault
or_bad_key None = Err BadKey
or_bad_key (Some key) = Ok key

-- the key of a paragraph of a class, or the fault that it is bad, if the class is known; else the
-- fault that this is not (RFC 2622, 2)
abbrev pub key_in : Option Class → List ℕ → List Field → Result Key ObjectFault
key_in None text fields = Err UnknownClass
key_in (Some found) text fields = or_bad_key (key_at found text fields)

-- the key of a paragraph with this first attribute
abbrev pub key_from : Field → List Field → Result Key ObjectFault
key_from first fields = key_in (class_named first.name) (value_meaning first.lines) fields

-- the key of a paragraph: its first attribute names the class, and the value of that is the key. A
-- paragraph without attributes has an unknown class (RFC 2622, 2)
unfoldable pub key_of : List Field → Result Key ObjectFault
key_of [] = Err UnknownClass
key_of (first ∷ others) = key_from first (first ∷ others)
