-- What becomes of what is submitted: the outcome of each, and the registry after it. For
-- `Registry::apply`, for submissions, and for laws of `src/laws.rt`.
use Rattle.std.specs.Prelude.{◌≡◌, ℕ, ◌⊎◌, List, [], ◌∷◌, Result, Ok, Err}
use Rattle.rr_object.specs.declared.code.Code.{Code}
use Rattle.rr_object.specs.declared.code.Code.TheVariants.{E90}
use Rattle.rr_auth.specs.declared.item.Item.{Item}
use Rattle.rr_auth.specs.declared.verdict.Verdict.{Verdict}
use Rattle.rr_auth.specs.declared.verdict.Verdict.TheVariants.{Add, Change, Delete, Refuse}
use Rattle.rr_auth.specs.declared.verdict.Verdict.TheVariants as verdicts
use Rattle.rr_auth.specs.Registries.{Reg}
use Rattle.rr_auth.specs.Verdicts.{verdict, after}
use Rattle.rr_registry.specs.declared.outcome.Outcome.{Outcome}
use Rattle.rr_registry.specs.declared.outcome.Outcome.TheVariants.{Added, Changed}
use Rattle.rr_registry.specs.declared.outcome.Outcome.TheVariants.{Unchanged, Deleted}
use Rattle.rr_registry.specs.declared.outcome.Outcome.TheVariants.{Refused}

-- The outcome that a verdict leads to.
abbrev pub outcome_of : Verdict → Outcome
outcome_of Add = Added
outcome_of Change = Changed
outcome_of verdicts.Unchanged = Unchanged
outcome_of Delete = Deleted
outcome_of (Refuse code) = Refused code

-- A verdict on an item had its effect: the outcome and the registry after it are the verdict's
-- (profile).
pub record HasEffect (before : Reg) (judged : Verdict) (item : Item) (outcome : Outcome)
    (then : Reg) : Type 0 where
  pub outcome_is : outcome ≡ outcome_of judged
  pub effect : then ≡ after judged before item

-- Memory ran out: the item is refused with E90 and nothing changes (profile).
pub record IsOutOfMemory (before : Reg) (outcome : Outcome) (then : Reg) : Type 0 where
  pub outcome_is : outcome ≡ Refused E90
  pub effect : then ≡ before

-- A verdict on an item had its effect, or memory ran out.
abbrev pub IsCarriedOut : Reg → Verdict → Item → Outcome → Reg → Type 0
IsCarriedOut before judged item outcome then =
    HasEffect before judged item outcome then ⊎ IsOutOfMemory before outcome then

-- What one item, with the secrets given with it, does to a registry: its verdict there is carried
-- out, or memory ran out.
abbrev pub IsStep : Reg → List (List ℕ) → Item → Outcome → Reg → Type 0
IsStep before secrets item outcome then =
    IsCarriedOut before (verdict before secrets item) item outcome then

-- What was submitted: an item, or the code with which it was refused as it was read; and the
-- secrets given with it.
pub record Submitted : Type 0 where
  pub secrets : List (List ℕ)
  pub action : Result Item Code

-- What was refused as it was read keeps its code and leaves the registry as it was; an item is a
-- step (profile).
abbrev pub Decides : Reg → List (List ℕ) → Result Item Code → Outcome → Reg → Type 0
Decides before secrets (Ok item) outcome then = IsStep before secrets item outcome then
Decides before secrets (Err code) outcome then = (outcome ≡ Refused code) × (then ≡ before)

-- Each of what is submitted is decided in turn, over the registry that the one before it left, and
-- has its own outcome in the list (profile).
abbrev pub Run : Reg → List Submitted → List Outcome → Reg → Type 0
Run before [] [] then = then ≡ before
Run before [] (outcome ∷ outcomes) then = ⊥
Run before (submitted ∷ later) [] then = ⊥
Run before (submitted ∷ later) (outcome ∷ outcomes) then =
    (between : Reg) × Decides before submitted.secrets submitted.action outcome between
    × Run between later outcomes then
