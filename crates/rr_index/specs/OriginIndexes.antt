-- The routes of a registry, by origin.
use Rattle.std.specs.Prelude.{◌≡◌, ℕ}
use Rattle.std.specs.BTreeSet.{BTreeSet, contains}
use Rattle.std.specs.FinMap.{contains_key}
use Rattle.std.specs.declared.cmp.Ordering.{Ordering}
use Rattle.std.specs.Ordering.{nat_cmp, ordering_then}
use Rattle.rr_number.specs.Prefixes.{PrefixParts, prefix_cmp}
use Rattle.rr_object.specs.declared.key.Key.TheVariants.{Route}
use Rattle.rr_auth.specs.Registries.{Reg}

-- Routes as origin and prefix are ordered by origin, then by prefix (profile).
abbrev pub origin_cmp : ℕ × PrefixParts → ℕ × PrefixParts → Ordering
origin_cmp a b = ordering_then (nat_cmp a.0 b.0) (prefix_cmp a.1 b.1)

-- The origins with prefixes of a set are exactly those of the registered routes (profile).
abbrev pub HasOrigins : Reg → BTreeSet (ℕ × PrefixParts) → Type 0
HasOrigins r routes = (origin : ℕ) (prefix : PrefixParts)
    → contains origin_cmp routes (origin, prefix) ≡ contains_key r (Route prefix origin)
