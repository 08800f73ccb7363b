-- The keys of a registry's maintainers, by name.
use Rattle.std.specs.Prelude.{◌≡◌, ℕ, List, Some, None, cond, Result, OnOk, OnErr}
use Rattle.std.specs.BTreeMap.{BTreeMap, get as key_at}
use Rattle.std.specs.Cmp.Lexicographic.{slice_cmp}
use Rattle.std.specs.FinMap.{contains_key, insert}
use Rattle.std.specs.Ordering.{nat_cmp}
use Rattle.rr_object.specs.declared.key.Key.{Key}
use Rattle.rr_object.specs.declared.key.Key.TheVariants.{Mntner}
use Rattle.rr_object.specs.Objects.{Obj}
use Rattle.rr_auth.specs.Registries.{Reg}

-- Under the name of each registered mntner stands its key, and under no other name a key (profile).
abbrev pub HasNames : Reg → BTreeMap (List ℕ) Key → Type 0
HasNames r keys = (name : List ℕ) → key_at (slice_cmp nat_cmp) keys name
    ≡ cond (contains_key r (Mntner name)) (Some (Mntner name)) None

-- If the names before are those of a registry, the names after are those of the registry with an
-- object under the key. Where memory runs out, they are still those of the registry (profile).
pub record EntersName {X E : Type 0} (old : BTreeMap (List ℕ) Key) (k : Key)
    (new : BTreeMap (List ℕ) Key) (result : Result X E) : Type 0 where
  pub ok : OnOk result ((r : Reg) (o : Obj) → HasNames r old → HasNames (insert r k o) new)
  pub err : OnErr result ((r : Reg) → HasNames r old → HasNames r new)
