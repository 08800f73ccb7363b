-- Which maintainers decide below an object (RFC 2725, 9 and 10): for verdicts.
use Rattle.std.specs.Prelude.{ℕ, Bool, true, false, ◌==◌, ◌||◌, List, length, map, filter}
use Rattle.std.specs.Prelude.{if◌then◌else◌}
use Rattle.std.specs.List.{list_any}
use Rattle.rr_number.specs.Prefixes.{PrefixParts}
use Rattle.rr_number.specs.Ranges.{admits}
use Rattle.rr_object.specs.declared.key.Key.{Key}
use Rattle.rr_object.specs.declared.key.Key.TheVariants.{AutNum}
use Rattle.rr_object.specs.Parts.{GrantParts}
use Rattle.rr_object.specs.Objects.{Obj}
use Rattle.rr_auth.specs.Passing.{names_pass}
use Rattle.rr_auth.specs.Registries.{Reg}

-- Who decides below an object: its mnt-lower where that has a name, otherwise its mnt-by
-- (RFC 2725, 9).
abbrev pub lower_of : Obj → List (List ℕ)
lower_of o = if length o.lower == 0 then o.maintainers else o.lower

-- An entry of mnt-routes grants a prefix where it is for any prefix, or has a range that admits it
-- (RFC 2725, 9).
abbrev pub grants : PrefixParts → GrantParts → Bool
grants p g = g.any || list_any (λ range. admits range p) g.ranges

-- The key is that of an aut-num.
abbrev pub is_aut_num : Key → Bool
is_aut_num (AutNum n) = true
is_aut_num _ = false

-- Who decides about a route of the prefix below an object: the maintainers of the entries of its
-- mnt-routes that grant the prefix, where it has entries (RFC 2725, 9); otherwise its mnt-by if it
-- is an aut-num, and else who decides below it (profile).
abbrev pub routes_of : Obj → PrefixParts → List (List ℕ)
routes_of o p =
    if length o.routes == 0 then (if is_aut_num o.key then o.maintainers else lower_of o)
    else map (λ g. g.name) (filter (grants p) o.routes)

-- The names that decide below an object pass (RFC 2725, 9).
abbrev pub lower_passes : Reg → List (List ℕ) → Obj → Bool
lower_passes r secrets x = names_pass r secrets (lower_of x)

-- The names that decide about routes of the prefix below an object pass (RFC 2725, 9).
abbrev pub routes_pass : Reg → List (List ℕ) → PrefixParts → Obj → Bool
routes_pass r secrets p x = names_pass r secrets (routes_of x p)
