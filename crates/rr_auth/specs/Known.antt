-- What is remembered of the objects of a registry, and when it holds: for `Known`, for `judge`,
-- which asks it, and for `rr_registry`, which keeps it.
use Rattle.std.specs.Prelude.{◌≡◌, ℕ, Bool, false, List, Some, IfSome, Result}
use Rattle.std.specs.BTreeMap.{BTreeMap, get as answer_at}
use Rattle.std.specs.FinMap.{get}
use Rattle.std.specs.Ordering.{eq_by_cmp}
use Rattle.rr_object.specs.declared.key.Key.{Key}
use Rattle.rr_object.specs.KeyOrders.{key_cmp}
use Rattle.rr_object.specs.Objects.{Obj}
use Rattle.rr_auth.specs.declared.known.Known.{Known}
use Rattle.rr_auth.specs.Passing.{MayTry, Tries, names_pass}
use Rattle.rr_auth.specs.Registries.{Reg}

-- An answer under the key of an object says whether the mnt-by of that object passes with these
-- secrets; where there is no such object, it may say either.
abbrev pub IsSeen : Reg → List (List ℕ) → Key → Bool → Type 0
IsSeen r secrets k passes =
    (o : Obj) → get r k ≡ Some o → passes ≡ names_pass r secrets o.maintainers

-- Each remembered answer is true of the object under its key, for these secrets.
abbrev pub AreSeen : Reg → List (List ℕ) → BTreeMap Key Bool → Type 0
AreSeen r secrets answers =
    (k : Key) → IfSome (answer_at key_cmp answers k) (IsSeen r secrets k)

-- Each answer holds in the registry, for the secrets that are kept with it: none is stale.
abbrev pub IsKnown : Reg → Known → Type 0
IsKnown r known = AreSeen r known.secrets.items known.answers

-- Trying secrets, with what is remembered of a registry, answers this and leaves the secrets as
-- they were; and what is remembered then is true of the registry (profile).
abbrev pub TriesKnown : {X : Type 0} → Reg → Known → X → List (List ℕ) → List (List ℕ) → X
    → Type 0
TriesKnown r known expected before after result =
    Tries expected before after result × IsKnown r known

-- Trying secrets, with what is remembered of a registry, answers this, unless memory runs out. In
-- either case the secrets stay as they were, and what is remembered then is true of the registry
-- (profile).
abbrev pub MayTryKnown : {X E : Type 0} → Reg → Known → X → List (List ℕ) → List (List ℕ)
    → Result X E → Type 0
MayTryKnown r known expected before after result =
    MayTry expected before after result × IsKnown r known

-- Two registries differ at most in what stands under the key.
abbrev pub IsSameBut : Key → Reg → Reg → Type 0
IsSameBut k before after =
    (l : Key) → eq_by_cmp key_cmp l k ≡ false → get after l ≡ get before l

-- If what was known is true of a registry, what is known after this is true of each that differs
-- from it at most under the key.
abbrev pub Forgets : Key → Known → Known → Type 0
Forgets key old new =
    (before after : Reg) → IsSameBut key before after → IsKnown before old → IsKnown after new
