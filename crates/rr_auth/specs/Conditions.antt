-- The conditions under which an item is refused, by their codes E10 to E18; in which order they are
-- tested, the verdict says. Each is over a registry, the secrets, and the object or key that the
-- item is about. Where the registry is that with a new mntner in it, the verdict says so. An object
-- authorises one below it where the names that decide about that one pass.
use Rattle.std.specs.Prelude.{ℕ, Bool, false, not, ◌&&◌, List, Option, None, Some, is_none}
use Rattle.std.specs.List.{list_any}
use Rattle.std.specs.Option.{option_map_or}
use Rattle.std.specs.FinMap.{get, values}
use Rattle.rr_number.specs.Prefixes.{PrefixParts, span_of}
use Rattle.rr_number.specs.declared.set_kind.SetKind.TheVariants as kinds
use Rattle.rr_object.specs.declared.key.Key.{Key}
use Rattle.rr_object.specs.declared.key.Key.TheVariants.{Mntner, AsBlock, AutNum, Inetnum, Route}
use Rattle.rr_object.specs.declared.key.Key.TheVariants.{AsSet, RouteSet}
use Rattle.rr_object.specs.Objects.{Obj, names_of}
use Rattle.rr_auth.specs.Registries.{Reg, is_crossed_by_some, is_named, some_is_unknown}
use Rattle.rr_auth.specs.Closest.{closest_inetnum, closest_block, closest_route_prefix, origins}
use Rattle.rr_auth.specs.Passing.{names_pass}
use Rattle.rr_auth.specs.Authority.{lower_passes, routes_pass}
use Rattle.rr_auth.specs.SetParents.{lacks_parent, parent_refuses}

-- E10: a maintainer that the object names is not registered (RFC 2622, 3).
abbrev pub names_unknown : Reg → Obj → Bool
names_unknown r o = some_is_unknown r (names_of o)

-- E11: the object's mnt-by does not pass. The object is the new one, or at a change or a deletion
-- the stored one (RFC 2725, 9).
abbrev pub unauthorised : Reg → List (List ℕ) → Obj → Bool
unauthorised r secrets o = not (names_pass r secrets o.maintainers)

-- E12: nothing is closest to the new object: no route and no inetnum to a route, no inetnum to an
-- inetnum, no as-block to an as-block or an aut-num. Or a set's name has several components, and
-- its parent is not registered (RFC 2725, 9). It never holds of a mntner.
abbrev pub is_uncovered : Reg → Key → Bool
is_uncovered r (Mntner name) = false
is_uncovered r (AsBlock s) = is_none (closest_block r s)
is_uncovered r (AutNum n) = is_none (closest_block r (record { first = n; last = n }))
is_uncovered r (Inetnum s) = is_none (closest_inetnum r s)
is_uncovered r (Route p n) = is_none (closest_route_prefix r p) && is_none
    (closest_inetnum r (span_of p))
is_uncovered r (AsSet name) = lacks_parent r kinds.AsSet name
is_uncovered r (RouteSet name) = lacks_parent r kinds.RouteSet name

-- The registered route of the closest prefix and this origin authorises a route of the prefix `p`.
abbrev pub route_passes : Reg → List (List ℕ) → PrefixParts → PrefixParts → ℕ → Bool
route_passes r secrets p closest n =
    option_map_or (routes_pass r secrets p) (get r (Route closest n)) false

-- Some route of the closest prefix authorises the route, or, where there is no closest prefix, the
-- closest inetnum does (RFC 2725, 9; that one of several closest routes is enough is profile).
abbrev pub space_passes : Reg → List (List ℕ) → PrefixParts → Option PrefixParts → Bool
space_passes r secrets p None =
    option_map_or (routes_pass r secrets p) (closest_inetnum r (span_of p)) false
space_passes r secrets p (Some closest) =
    list_any (route_passes r secrets p closest) (origins r closest)

-- E13: no closest as-block authorises a new as-block or aut-num, or no closest inetnum a new
-- inetnum. Or no route of the closest prefix authorises a new route, or, without such a prefix, no
-- closest inetnum does. Or no registered parent authorises a new set whose name has several
-- components (RFC 2725, 9). It never holds of a mntner.
abbrev pub cover_refuses : Reg → List (List ℕ) → Key → Bool
cover_refuses r secrets (Mntner name) = false
cover_refuses r secrets (AsBlock s) =
    not (option_map_or (lower_passes r secrets) (closest_block r s) false)
cover_refuses r secrets (AutNum n) =
    not (option_map_or (lower_passes r secrets)
    (closest_block r (record { first = n; last = n })) false)
cover_refuses r secrets (Inetnum s) =
    not (option_map_or (lower_passes r secrets) (closest_inetnum r s) false)
cover_refuses r secrets (Route p n) = not (space_passes r secrets p (closest_route_prefix r p))
cover_refuses r secrets (AsSet name) = parent_refuses r secrets kinds.AsSet name
cover_refuses r secrets (RouteSet name) = parent_refuses r secrets kinds.RouteSet name

-- E14: the origin of the route has no aut-num (RFC 2725, 9).
abbrev pub lacks_origin : Reg → Key → Bool
lacks_origin r (Route p n) = is_none (get r (AutNum n))
lacks_origin r _ = false

-- E15: no registered aut-num of the route's origin authorises it (RFC 2725, 9).
abbrev pub origin_refuses : Reg → List (List ℕ) → Key → Bool
origin_refuses r secrets (Route p n) =
    not (option_map_or (routes_pass r secrets p) (get r (AutNum n)) false)
origin_refuses r secrets _ = false

-- E16: the new object is an inetnum or an as-block, and its span crosses that of a registered one
-- of its class (profile).
abbrev pub crosses_registered : Reg → Key → Bool
crosses_registered r k = is_crossed_by_some k (values r)

-- E17: the key to be deleted is that of a mntner, which another object names (profile).
abbrev pub is_in_use : Reg → Key → Bool
is_in_use r (Mntner name) = is_named r name
is_in_use r _ = false

-- E18: no object is stored under the key that is to be deleted (profile).
abbrev pub is_unregistered : Option Obj → Bool
is_unregistered stored = is_none stored
