-- What a run does to what the holders of a prefix hold: for a law of `src/laws.rt`, and for
-- submissions.
use Rattle.std.specs.Prelude.{◌≡◌, Bool, true, not, ◌||◌, List, [], ◌∷◌, filter}
use Rattle.std.specs.Prelude.{Result, Ok, Err, if◌then◌else◌}
use Rattle.std.specs.List.{list_all}
use Rattle.rr_object.specs.declared.code.Code.{Code}
use Rattle.rr_auth.specs.declared.item.Item.{Item}
use Rattle.rr_auth.specs.Registries.{Reg, Sound}
use Rattle.rr_registry.specs.Holdings.{Agree, Holding, IsHeld, is_foreign, is_own}
use Rattle.rr_registry.specs.RunLaws.{AreFormed}
use Rattle.rr_registry.specs.Runs.{Run, Submitted}
use Rattle.rr_registry.specs.declared.outcome.Outcome.{Outcome}

-- What is submitted is the holders' own where it was refused as it was read, or is an own item.
abbrev pub is_own_action : Holding → Result Item Code → Bool
is_own_action h (Ok item) = is_own h item
is_own_action h (Err code) = true

-- Each of what is submitted is foreign in the registry, or the holders' own.
abbrev pub are_foreign_or_own : Holding → Reg → List Submitted → Bool
are_foreign_or_own h r submitted =
    list_all (λ s. is_foreign h r s.secrets || is_own_action h s.action) submitted

-- What is submitted and not foreign in the registry.
abbrev pub own_submitted : Holding → Reg → List Submitted → List Submitted
own_submitted h r submitted = filter (λ s. not (is_foreign h r s.secrets)) submitted

-- The outcomes of what is submitted and not foreign in the registry.
abbrev pub own_outcomes : Holding → Reg → List Submitted → List Outcome → List Outcome
own_outcomes h r [] outcomes = []
own_outcomes h r (s ∷ ss) [] = []
own_outcomes h r (s ∷ ss) (o ∷ os) =
    if is_foreign h r s.secrets then own_outcomes h r ss os else o ∷ own_outcomes h r ss os

-- What was submitted and not foreign, with the outcomes that it had, is by itself a run from where
-- the whole run began. Both runs end agreeing on what is held, with the prefix held. Where all was
-- foreign, what is held is what it was.
pub record IsConfined (h : Holding) (before : Reg) (submitted : List Submitted)
    (outcomes : List Outcome) (ended : Reg) : Type 0 where
  pub alone : Reg
  pub run : Run before (own_submitted h before submitted)
      (own_outcomes h before submitted outcomes) alone
  pub agree : Agree h ended alone
  pub held : IsHeld h ended
  pub held_alone : IsHeld h alone
  pub undisturbed : own_submitted h before submitted ≡ [] → Agree h before ended

-- For whoever holds a prefix, a run is confined where each of what is submitted is foreign or their
-- own.
abbrev pub Confines : Reg → List Submitted → List Outcome → Reg → Type 0
Confines before submitted outcomes ended =
    (h : Holding) → IsHeld h before → are_foreign_or_own h before submitted ≡ true
    → IsConfined h before submitted outcomes ended

-- Each run of well-formed items from a sound registry is confined, for whoever holds a prefix,
-- where each of what is submitted is foreign or their own.
abbrev pub RunsConfine : Type 0
RunsConfine =
    (r s : Reg) (submitted : List Submitted) (outcomes : List Outcome)
    → Sound r → AreFormed submitted → Run r submitted outcomes s
    → Confines r submitted outcomes s
