-- The closest objects of a class to a span (RFC 2725, 9). A class is given here by a function that
-- has the span of each of its keys, and none of another key.
use Rattle.std.specs.Prelude.{ℕ, Bool, true, false, not, ◌==◌, ◌&&◌, ◌||◌, List}
use Rattle.std.specs.Prelude.{Option, None}
use Rattle.std.specs.Prelude.{Some, nat_le, if◌then◌else◌}
use Rattle.std.specs.List.{list_all, find, filter_map}
use Rattle.std.specs.Option.{option_map_or, option_and_then}
use Rattle.std.specs.FinMap.{values}
use Rattle.rr_number.specs.Spans.{Ends, covers, size}
use Rattle.rr_number.specs.Prefixes.{PrefixParts, span_of}
use Rattle.rr_object.specs.declared.key.Key.{Key}
use Rattle.rr_object.specs.declared.key.Key.TheVariants.{AsBlock, Inetnum, Route}
use Rattle.rr_object.specs.Objects.{Obj}
use Rattle.rr_auth.specs.Registries.{Reg}

-- The span of an inetnum's key; other keys have none here.
abbrev pub inetnum_span : Key → Option Ends
inetnum_span (Inetnum s) = Some s
inetnum_span _ = None

-- The span of an as-block's key; other keys have none here.
abbrev pub block_span : Key → Option Ends
block_span (AsBlock s) = Some s
block_span _ = None

-- The span of the prefix of a route's key; other keys have none here.
abbrev pub route_span : Key → Option Ends
route_span (Route p n) = Some (span_of p)
route_span _ = None

-- The object is not of the class, does not cover s, or is not smaller than t.
abbrev pub is_no_closer : (Key → Option Ends) → Ends → Ends → Obj → Bool
is_no_closer class s t x =
    option_map_or (λ u. not (covers u s) || nat_le (size t) (size u)) (class x.key) true

-- An object is closest to a span where it is of the class and covers the span, and no object of the
-- class in the list that covers the span has a smaller one. An equal span counts (RFC 2725, 9).
abbrev pub is_closest : (Key → Option Ends) → List Obj → Ends → Obj → Bool
is_closest class all s o =
    option_map_or (λ t. covers t s && list_all (is_no_closer class s t) all) (class o.key) false

-- The object is of the class and covers s.
abbrev pub is_cover : (Key → Option Ends) → Ends → Obj → Bool
is_cover class s o = option_map_or (λ t. covers t s) (class o.key) false

-- The first object of a list that is of the class and closest to a span.
abbrev pub closest_of : (Key → Option Ends) → List Obj → Ends → Option Obj
closest_of class all s = find (is_closest class all s) all

-- The closest inetnum of a registry (RFC 2725, 9). In a sound registry there is one at most,
-- because its inetnums do not cross; in another this is the first by key.
abbrev pub closest_inetnum : Reg → Ends → Option Obj
closest_inetnum r s = closest_of inetnum_span (values r) s

-- The closest as-block of a registry (RFC 2725, 9), likewise one at most in a sound registry.
abbrev pub closest_block : Reg → Ends → Option Obj
closest_block r s = closest_of block_span (values r) s

-- The prefix of a route's key.
abbrev pub route_prefix : Key → Option PrefixParts
route_prefix (Route p n) = Some p
route_prefix _ = None

-- The prefix of the first closest route to a prefix in a list; none where there is no such route.
-- There can be several, of one prefix and several origins (RFC 2725, 9).
abbrev pub prefix_of_closest : List Obj → PrefixParts → Option PrefixParts
prefix_of_closest all p =
    option_and_then (λ o. route_prefix o.key) (closest_of route_span all (span_of p))

-- The prefix of the closest routes of a registry to a prefix (RFC 2725, 9). In a sound registry
-- all of them have it; in another this is that of the first by key.
abbrev pub closest_route_prefix : Reg → PrefixParts → Option PrefixParts
closest_route_prefix r p = prefix_of_closest (values r) p

-- Two prefixes are the same.
abbrev pub same_prefix : PrefixParts → PrefixParts → Bool
same_prefix p q = p.address == q.address && p.length == q.length

-- The origin of a key, where it is that of a route of the prefix.
abbrev pub origin_at : PrefixParts → Key → Option ℕ
origin_at q (Route p n) = if same_prefix p q then Some n else None
origin_at q _ = None

-- The origins of the routes of a prefix in a list, in the order of the list.
abbrev pub origins_among : List Obj → PrefixParts → List ℕ
origins_among all p = filter_map (λ o. origin_at p o.key) all

-- The origins of a registry's routes of a prefix, in the order of the registry's keys.
abbrev pub origins : Reg → PrefixParts → List ℕ
origins r p = origins_among (values r) p
