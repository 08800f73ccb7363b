-- What the lists of a registry's objects have: for `SetBook`.
use Rattle.std.specs.Prelude.{◌≡◌, ◌↔◌, ◌==◌, ℕ, Bool, false, List, Contains}
use Rattle.std.specs.Prelude.{Some}
use Rattle.std.proofs.Common.{Bor}
use Rattle.std.specs.FinMap.{get}
use Rattle.std.specs.Option.{option_map_or}
use Rattle.rr_auth.specs.Registries.{Reg}
use Rattle.rr_graph.specs.Chain.{HasNoRepeats}
use Rattle.rr_number.specs.Prefixes.{PrefixParts}
use Rattle.rr_object.specs.Objects.{Obj}
pub use Rattle.rr_object.specs.Objects.{lent}
use Rattle.rr_object.specs.declared.key.Key.{Key}
use Rattle.rr_object.specs.declared.key.Key.TheVariants.{AutNum, Route}
use Rattle.rr_sets.specs.KeyParts.{origin_of}

-- A list of references points to exactly the objects that have the property, each once.
pub record ListsOnce (P : Obj → Type 0) (objects : List (Bor Obj)) : Type 0 where
  pub same : (o : Obj) → Contains (lent objects) o ↔ P o
  pub once : HasNoRepeats (lent objects)

-- The object is a registered aut-num.
abbrev pub IsAutNum : Reg → Obj → Type 0
IsAutNum r o = (n : ℕ) × (get r (AutNum n) ≡ Some o)

-- The object is a registered route.
abbrev pub IsRegisteredRoute : Reg → Obj → Type 0
IsRegisteredRoute r o =
    (prefix : PrefixParts) × (origin : ℕ) × (get r (Route prefix origin) ≡ Some o)

-- The object is a route of this origin (RFC 2622, 4).
abbrev pub is_originated : ℕ → Obj → Bool
is_originated n o = option_map_or (λ origin. origin == n) (origin_of o.key) false

-- The object is registered, and its `member-of` names the set (RFC 2622, 5).
abbrev pub IsReferrer : Reg → List ℕ → Obj → Type 0
IsReferrer r name o = (key : Key) × (get r key ≡ Some o) × Contains o.member_of name
