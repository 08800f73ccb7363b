-- What private functions of src promise each other: the parts of `by_place` in `Verdicts`, one for
-- each kind of cover, and what a walk over names stands for. The verdict is made of `by_place`
-- alone, and no caller reads these.
use Rattle.std.specs.Prelude.{ℕ, Bool, false, not, ◌&&◌, is_none, List, [], ◌∷◌, map}
use Rattle.std.specs.Prelude.{filter}
use Rattle.std.specs.Prelude.{Option}
use Rattle.std.specs.Option.{option_map_or}
use Rattle.rr_number.specs.Prefixes.{PrefixParts, span_of}
use Rattle.rr_number.specs.declared.set_kind.SetKind.{SetKind}
use Rattle.rr_object.specs.declared.code.Code.TheVariants.{E12, E13, E14, E15}
use Rattle.rr_object.specs.declared.key.Key.TheVariants.{Route}
use Rattle.rr_object.specs.Objects.{Obj}
use Rattle.rr_auth.specs.declared.authority.RouteNames.{RouteNames}
use Rattle.rr_auth.specs.declared.authority.RouteNames.TheVariants.{Granted, Named}
use Rattle.rr_auth.specs.declared.verdict.Verdict.{Verdict}
use Rattle.rr_auth.specs.declared.verdict.Verdict.TheVariants.{Add}
use Rattle.rr_auth.specs.Authority.{grants}
use Rattle.rr_auth.specs.Registries.{Reg}
use Rattle.rr_auth.specs.Closest.{closest_inetnum, closest_route_prefix}
use Rattle.rr_auth.specs.Conditions.{lacks_origin, origin_refuses, space_passes}
use Rattle.rr_auth.specs.SetParents.{lacks_parent, parent_refuses}
use Rattle.rr_auth.specs.Verdicts.{first_of}

-- What a cover, or a parent, says of an object below it: it has to be there, and its names to pass.
abbrev pub below : (Obj → Bool) → Option Obj → Verdict
below names_pass cover = first_of (
    record { holds = is_none cover; code = E12 } ∷ (
    record { holds = not (option_map_or names_pass cover false); code = E13 } ∷ [])) Add

-- What a set's parent says of it, where it has one.
abbrev pub below_parent : Reg → List (List ℕ) → SetKind → List ℕ → Verdict
below_parent r secrets kind name = first_of (
    record { holds = lacks_parent r kind name; code = E12 } ∷ (
    record { holds = parent_refuses r secrets kind name; code = E13 } ∷ [])) Add

-- What the routes and inetnums above a route say of it.
abbrev pub below_space : Reg → List (List ℕ) → PrefixParts → Verdict
below_space r secrets p = first_of (
    record {
      holds = is_none (closest_route_prefix r p) && is_none (closest_inetnum r (span_of p));
      code = E12;
    } ∷ (
    record { holds = not (space_passes r secrets p (closest_route_prefix r p)); code = E13 } ∷ []))
    Add

-- What the aut-num of a route's origin says of it, and then the routes and inetnums above it.
abbrev pub below_origin : Reg → List (List ℕ) → PrefixParts → ℕ → Verdict
below_origin r secrets p n = first_of (
    record { holds = lacks_origin r (Route p n); code = E14 } ∷ (
    record { holds = origin_refuses r secrets (Route p n); code = E15 } ∷ []))
    (below_space r secrets p)

-- The names of those who decide about routes of the prefix.
abbrev pub names_among : PrefixParts → RouteNames → List (List ℕ)
names_among p (Granted entries) = map (λ g. g.name) (filter (grants p) entries.now)
names_among p (Named names) = names.now
