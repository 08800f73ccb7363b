-- Which objects of a registry a query asks for: for `find_for`, by `Answers`.
use Rattle.std.specs.Prelude.{Bool, ◌&&◌, List, [], filter, is_some}
use Rattle.std.specs.List.{cons_option}
use Rattle.std.specs.Option.{option_map_or}
use Rattle.std.specs.FinMap.{get, values}
use Rattle.rr_number.specs.Prefixes.{PrefixParts, span_of}
use Rattle.rr_number.specs.Spans.{Ends}
use Rattle.rr_object.specs.Objects.{Obj, object_names}
use Rattle.rr_auth.specs.Closest.{closest_inetnum, closest_route_prefix, origin_at}
use Rattle.rr_auth.specs.Registries.{Reg}
use Rattle.rr_book.specs.Listings.{covering, covers_span, inside, lies_in}
use Rattle.rr_sets.specs.Lists.{is_originated}
use Rattle.rr_answer.specs.declared.query.Query.{Query}
use Rattle.rr_answer.specs.declared.query.Query.TheVariants.{Object, Exact, Closest, Less, More}
use Rattle.rr_answer.specs.declared.query.Query.TheVariants.{Naming, Originated, Expand, Prefixes}

-- The object is an inetnum or a route of exactly this span (profile).
abbrev pub is_at : Ends → Obj → Bool
is_at s o = covers_span s o && lies_in s o

-- The object is a route of this prefix (RFC 2622, 4).
abbrev pub is_route_of : PrefixParts → Obj → Bool
is_route_of p o = is_some (origin_at p o.key)

-- The routes of the closest prefix to this one (RFC 2725, 9).
abbrev pub routes_closest : Reg → PrefixParts → List Obj
routes_closest r p =
    option_map_or (λ closest. filter (is_route_of closest) (values r)) (closest_route_prefix r p) []

-- The objects that a query asks for, by class and key. They are the object of a key, those that
-- name a maintainer, or the routes of an origin. Or they are the inetnums and routes of exactly a
-- prefix, the closest to it, all that cover it, or all inside it. An expansion asks for none
-- (profile; closest: RFC 2725, 9).
abbrev pub asked : Query → Reg → List Obj
asked (Object k) r = cons_option (get r k) []
asked (Exact p) r = filter (is_at (span_of p)) (values r)
asked (Closest p) r = cons_option (closest_inetnum r (span_of p)) (routes_closest r p)
asked (Less p) r = covering r (span_of p)
asked (More p) r = inside r (span_of p)
asked (Naming name) r = filter (object_names name) (values r)
asked (Originated n) r = filter (is_originated n) (values r)
asked (Expand name) r = []
asked (Prefixes name) r = []
