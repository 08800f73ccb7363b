-- How runs fit together, and what they keep: laws of `src/laws.rt`.
use Rattle.std.specs.Prelude.{◌≡◌, ℕ, List, [], ◌∷◌, ◌++◌, IfOk}
use Rattle.rr_auth.specs.Laws.{IsItem}
use Rattle.rr_auth.specs.Registries.{Reg, Sound}
use Rattle.rr_auth.specs.Sources.{IsReadIn, IsRegistryOf}
use Rattle.rr_registry.specs.Runs.{Run, Submitted}
use Rattle.rr_registry.specs.declared.outcome.Outcome.{Outcome}

-- A run of a list, and then a run of another from where it ended, are one run of both lists, with
-- the outcomes of both.
abbrev pub RunsJoin : Type 0
RunsJoin =
    (r s t : Reg) (first later : List Submitted) (outcomes others : List Outcome)
    → Run r first outcomes s → Run s later others t
    → Run r (first ++ later) (outcomes ++ others) t

-- What a run of two lists, one after the other, is made of: a run of the first, and one of the
-- second from where that led. The outcomes are those of the first and then those of the second.
pub record IsSplit (r t : Reg) (first later : List Submitted)
    (outcomes : List Outcome) : Type 0 where
  pub between : Reg
  pub first_outcomes : List Outcome
  pub later_outcomes : List Outcome
  pub cut : outcomes ≡ first_outcomes ++ later_outcomes
  pub first_run : Run r first first_outcomes between
  pub later_run : Run between later later_outcomes t

-- A run of two lists, one after the other, is a run of the first and then a run of the second.
abbrev pub RunsPart : Type 0
RunsPart =
    (r t : Reg) (first later : List Submitted) (outcomes : List Outcome)
    → Run r (first ++ later) outcomes t → IsSplit r t first later outcomes

-- Each item of a list is well formed: the object that it submits, if any, has a well-formed key.
abbrev pub AreFormed : List Submitted → Type 0
AreFormed [] = Unit {0}
AreFormed (submitted ∷ later) = IfOk submitted.action IsItem × AreFormed later

-- A run from a sound registry ends at a sound one, whatever well-formed items are submitted.
abbrev pub RunsStaySound : Type 0
RunsStaySound =
    (r s : Reg) (submitted : List Submitted) (outcomes : List Outcome)
    → Sound r → AreFormed submitted → Run r submitted outcomes s → Sound s

-- Each item of a list is as it is read in a source.
abbrev pub AreReadIn : List ℕ → List Submitted → Type 0
AreReadIn source [] = Unit {0}
AreReadIn source (submitted ∷ later) =
    IfOk submitted.action (IsReadIn source) × AreReadIn source later

-- A run from a registry of a source ends at a registry of that source, whatever items are submitted
-- that are as they are read in it.
abbrev pub RunsStayOfSource : Type 0
RunsStayOfSource =
    (source : List ℕ) (r s : Reg) (submitted : List Submitted) (outcomes : List Outcome)
    → IsRegistryOf source r → AreReadIn source submitted → Run r submitted outcomes s
    → IsRegistryOf source s
