-- Answers and public dumps show nothing of a registry but its public objects.
use Rattle.std.specs.Prelude.{◌≡◌, ℕ, false, List, Some, Ok, Result}
use Rattle.std.specs.FinMap.{get}
use Rattle.std.specs.Option.{option_map}
use Rattle.rr_object.specs.declared.key.Key.{Key}
use Rattle.rr_object.specs.Objects.{Obj}
use Rattle.rr_object.specs.Readings.{obj_of, public_of}
use Rattle.rr_auth.specs.Registries.{Reg}
use Rattle.rr_auth.specs.Sources.{IsRegistryOf}
use Rattle.rr_answer.specs.declared.query_fault.QueryFault.{QueryFault}
use Rattle.rr_answer.specs.Answers.{IsAnswerTo}
use Rattle.rr_answer.specs.Dumps.{dump}

-- Each object of a registry stands under its own key, and is what its paragraph reads as
-- (RFC 2622, 2 to 6).
pub record IsRead (r : Reg) : Type 0 where
  pub keyed : (k : Key) (o : Obj) → get r k ≡ Some o → o.key ≡ k
  pub read : (k : Key) (o : Obj) → get r k ≡ Some o → obj_of o.paragraph ≡ Ok o

-- In a registry of a source each object stands under its own key, and is what its paragraph reads
-- as.
abbrev pub SourcesAreRead : Type 0
SourcesAreRead = (source : List ℕ) (r : Reg) → IsRegistryOf source r → IsRead r

-- Two registries look alike where they have objects of the same keys, which are equal in public
-- (profile).
abbrev pub LookAlike : Reg → Reg → Type 0
LookAlike r s = (k : Key) → option_map public_of (get r k) ≡ option_map public_of (get s k)

-- Registries that look alike, and whose objects stand under their own keys and are what they are
-- read as, answer each query alike, under the same limit (profile). With one registry for both,
-- this says that a query has one answer.
abbrev pub AnswersKeepSecrets : Type 0
AnswersKeepSecrets =
    (r s : Reg) → IsRead r → IsRead s → LookAlike r s
    → (limit : ℕ) (text : List ℕ) (answer other : Result (List ℕ) QueryFault)
    → IsAnswerTo r limit text answer → IsAnswerTo s limit text other → answer ≡ other

-- Registries that look alike, and whose objects stand under their own keys and are what they are
-- read as, have the same public dump (profile).
abbrev pub DumpsKeepSecrets : Type 0
DumpsKeepSecrets =
    (r s : Reg) → IsRead r → IsRead s → LookAlike r s → dump false r ≡ dump false s
