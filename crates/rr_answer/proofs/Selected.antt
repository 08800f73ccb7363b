-- Which objects a query asks for, and their texts, are told by what is seen of the objects.
use Rattle.std.proofs.Common.{◌≡◌, suc, Bool, true, false, cond, List, [], ◌∷◌, ◌++◌, refl, sym, ap}
use Rattle.std.proofs.Common.{◌∙◌}
use Rattle.std.specs.Prelude.{Option, None, Some, ◌&&◌, filter, length, map}
use Rattle.std.specs.List.{cons_option, find, flat_map, list_all}
use Rattle.std.specs.Option.{option_and_then, option_map, option_map_or}
use Rattle.std.specs.FinMap.{get, values}
use Rattle.std.proofs.lemmas.List.Folds.{flat_map-map, list_all-map}
use Rattle.rr_number.specs.Prefixes.{PrefixParts, span_of}
use Rattle.rr_number.specs.Spans.{Ends, covers}
use Rattle.rr_object.specs.declared.key.Key.{Key}
use Rattle.rr_object.specs.Objects.{Obj, object_names}
use Rattle.rr_auth.specs.Closest.{closest_of, inetnum_span, is_closest, is_no_closer}
use Rattle.rr_auth.specs.Closest.{prefix_of_closest, route_prefix, route_span}
use Rattle.rr_auth.specs.Registries.{Reg}
use Rattle.rr_book.specs.Listings.{covers_span, lies_in}
use Rattle.rr_answer.specs.declared.query.Query.{Query}
use Rattle.rr_answer.specs.declared.query.Query.TheVariants.{Object, Exact, Closest, Less, More}
use Rattle.rr_answer.specs.declared.query.Query.TheVariants.{Naming, Originated, Expand, Prefixes}
use Rattle.rr_answer.specs.Dumps.{dump, dumped, end_line}
use Rattle.rr_sets.specs.Lists.{is_originated}
use Rattle.rr_answer.specs.Selections.{asked, is_at, is_route_of}
use Rattle.rr_answer.specs.Texts.{no_entries, objects_text, or_else, public_text}
use Rattle.rr_answer.proofs.Alike.{Alike, same_values}
use Rattle.rr_answer.proofs.Seen.{seen}

-- a test that gives the same of an object as it is seen selects alike
filter_seen : (test : Obj → Bool) → ((o : Obj) → test (seen o) ≡ test o) → (os : List Obj) →
    map seen (filter test os) ≡ filter test (map seen os)
filter_seen test same [] = refl
filter_seen test same (o ∷ os) =
    (elim (test o) as (λ b. map seen (cond b (o ∷ filter test os) (filter test os))
    ≡ cond b (seen o ∷ filter test (map seen os)) (filter test (map seen os))) [
      | true ↦ ap (λ found. seen o ∷ found) (filter_seen test same os)
      | false ↦ filter_seen test same os
    ]) ∙ ap (λ b. cond b (seen o ∷ filter test (map seen os)) (filter test (map seen os)))
    (sym (same o))

find_seen : (test seeing : Obj → Bool) → ((o : Obj) → seeing (seen o) ≡ test o) → (os : List Obj) →
    option_map seen (find test os) ≡ find seeing (map seen os)
find_seen test seeing same [] = refl
find_seen test seeing same (o ∷ os) =
    (elim (test o) as (λ b. option_map seen (cond b (Some o) (find test os))
    ≡ cond b (Some (seen o)) (find seeing (map seen os))) [
      | true ↦ refl
      | false ↦ find_seen test seeing same os
    ]) ∙ ap (λ b. cond b (Some (seen o)) (find seeing (map seen os))) (sym (same o))

closest_by : (class : Key → Option Ends) (s : Ends) (os : List Obj) (o : Obj) →
    is_closest class (map seen os) s (seen o) ≡ is_closest class os s o
closest_by class s os o =
    elim (class o.key) as
    (λ own. option_map_or (λ t. covers t s && list_all (is_no_closer class s t) (map seen os))
    own false
    ≡ option_map_or (λ t. covers t s && list_all (is_no_closer class s t) os) own false) [
      | None ↦ refl
      | Some t ↦ ap (λ b. covers t s && b) (list_all-map (is_no_closer class s t) seen os)
    ]

closest_seen : (class : Key → Option Ends) (s : Ends) (os : List Obj) →
    option_map seen (closest_of class os s) ≡ closest_of class (map seen os) s
closest_seen class s os = find_seen (is_closest class os s) (is_closest class (map seen os) s)
    (closest_by class s os) os

prefix_seen : (o : Option Obj) → option_and_then (λ x. route_prefix x.key) (option_map seen o)
    ≡ option_and_then (λ x. route_prefix x.key) o
prefix_seen None = refl
prefix_seen (Some o) = refl

routes_seen : (os : List Obj) (p : PrefixParts) → prefix_of_closest os p ≡ prefix_of_closest
    (map seen os) p
routes_seen os p = sym (prefix_seen (closest_of route_span os (span_of p)))
    ∙ ap (option_and_then (λ x. route_prefix x.key)) (closest_seen route_span (span_of p) os)

cons_seen : (o : Option Obj) (os : List Obj) → map seen (cons_option o os) ≡ cons_option
    (option_map seen o) (map seen os)
cons_seen None os = refl
cons_seen (Some o) os = refl

-- the routes of the closest prefix, where there is one
routes_at : Option PrefixParts → List Obj → List Obj
routes_at closest os = option_map_or (λ p. filter (is_route_of p) os) closest []

routes_at_seen : (closest : Option PrefixParts) (os : List Obj) → map seen (routes_at closest os)
    ≡ routes_at closest (map seen os)
unfolding routes_at
routes_at_seen None os = refl
routes_at_seen (Some p) os = filter_seen (is_route_of p) (λ o. refl) os

-- the closest inetnum and routes of a list of objects
closest_in : PrefixParts → List Obj → List Obj
closest_in p os = cons_option (closest_of inetnum_span os (span_of p))
    (routes_at (prefix_of_closest os p) os)

closest_in_seen : (p : PrefixParts) (os : List Obj) → map seen (closest_in p os) ≡ closest_in p
    (map seen os)
unfolding closest_in
closest_in_seen p os =
    cons_seen (closest_of inetnum_span os (span_of p)) (routes_at (prefix_of_closest os p) os)
    ∙ (λ i. cons_option (closest_seen inetnum_span (span_of p) os i)
    (routes_at_seen (prefix_of_closest os p) os i))
    ∙ ap (λ closest. cons_option (closest_of inetnum_span (map seen os) (span_of p))
    (routes_at closest (map seen os))) (routes_seen os p)

closest_is : (p : PrefixParts) (r : Reg) → asked (Closest p) r ≡ closest_in p (values r)
unfolding closest_in routes_at
closest_is p r = refl

-- a list that a test selects is seen alike
selected : (test : Obj → Bool) → ((o : Obj) → test (seen o) ≡ test o) → (r s : Reg) → Alike r s
    → map seen (filter test (values r)) ≡ map seen (filter test (values s))
selected test same r s alike =
    filter_seen test same (values r) ∙ ap (filter test) (same_values r s alike)
    ∙ sym (filter_seen test same (values s))

-- what is asked for is seen alike
pub asked_alike : (query : Query) (r s : Reg) → Alike r s → map seen (asked query r) ≡ map seen
    (asked query s)
asked_alike (Object k) r s alike =
    cons_seen (get r k) [] ∙ ap (λ o. cons_option o []) (alike.at k) ∙ sym (cons_seen (get s k) [])
asked_alike (Exact p) r s alike = selected (is_at (span_of p)) (λ o. refl) r s alike
asked_alike (Closest p) r s alike =
    ap (map seen) (closest_is p r) ∙ closest_in_seen p (values r) ∙ ap (closest_in p)
    (same_values r s alike)
    ∙ sym (closest_in_seen p (values s)) ∙ ap (map seen) (sym (closest_is p s))
asked_alike (Less p) r s alike = selected (covers_span (span_of p)) (λ o. refl) r s alike
asked_alike (More p) r s alike = selected (lies_in (span_of p)) (λ o. refl) r s alike
asked_alike (Naming name) r s alike = selected (object_names name) (λ o. refl) r s alike
asked_alike (Originated n) r s alike = selected (is_originated n) (λ o. refl) r s alike
asked_alike (Expand name) r s alike = refl
asked_alike (Prefixes name) r s alike = refl

-- the public texts of objects are told by what is seen of them
texts_seen : (os xs : List Obj) → map seen os ≡ map seen xs → flat_map public_text os ≡ flat_map
    public_text xs
texts_seen os xs e = sym (flat_map-map (dumped true) seen os) ∙ ap (flat_map (dumped true)) e
    ∙ flat_map-map (dumped true) seen xs

pub objects_alike : (os xs : List Obj) → map seen os ≡ map seen xs → objects_text os ≡ objects_text
    xs
unfolding objects_text
objects_alike os xs e = ap (or_else no_entries) (texts_seen os xs e)

length_seen : (os : List Obj) → length (map seen os) ≡ length os
length_seen [] = refl
length_seen (o ∷ os) = ap suc (length_seen os)

pub dumps_alike : (r s : Reg) → Alike r s → dump false r ≡ dump false s
dumps_alike r s alike =
    let same = same_values r s alike in
    let lengths : length (values r) ≡ length (values s) = sym (length_seen (values r)) ∙ ap length
    same ∙ length_seen (values s) in
    λ i. texts_seen (values r) (values s) same i ++ end_line (lengths i)
