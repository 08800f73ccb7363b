-- What the expansion of a set answers: for `Answers`.
use Rattle.std.specs.Prelude.{◌≡◌, ◌⊎◌, ℕ, true, false, List, Result, Ok, Err}
use Rattle.std.specs.declared.cmp.Ordering.{Ordering}
use Rattle.std.specs.Cmp.Lexicographic.{slice_cmp}
use Rattle.std.specs.Ordering.{nat_cmp}
use Rattle.rr_graph.specs.Answered.{ListsInOrder}
use Rattle.rr_sets.specs.SetMeanings.{Meaning}
use Rattle.rr_answer.specs.declared.query_fault.QueryFault.{QueryFault}
use Rattle.rr_answer.specs.declared.query_fault.QueryFault.TheVariants.{TooMany}
use Rattle.rr_answer.specs.Texts.{members_text, no_entries}

-- The text lists what is in a set that there is and that is within the limit, and the names that
-- are missing, both in ascending order (profile).
pub record IsListed {X : Type 0} (cmp : X → X → Ordering) (line : X → List ℕ)
    (set : Meaning X) (text : List ℕ) : Type 0 where
  pub known : set.known ≡ true
  pub few : ¬ set.Overflows
  pub found : List X
  pub missing : List (List ℕ)
  pub has : ListsInOrder cmp set.Has found
  pub lacks : ListsInOrder (slice_cmp nat_cmp) set.Lacks missing
  pub text_is : text ≡ members_text line found missing

-- There is no such set, and the text says that there are no entries (profile).
pub record IsUnknown {X : Type 0} (set : Meaning X) (text : List ℕ) : Type 0 where
  pub unknown : set.known ≡ false
  pub text_is : text ≡ no_entries

-- There is such a set, its expansion is over the limit, and the fault says so (profile).
pub record IsOverLimit {X : Type 0} (set : Meaning X) (fault : QueryFault) : Type 0 where
  pub known : set.known ≡ true
  pub many : set.Overflows
  pub fault_is : fault ≡ TooMany

-- The answer to an expansion: the members of the set and the missing names, or that there is no
-- such set. It is an error if the expansion is over the limit (profile).
abbrev pub IsExpansion : {X : Type 0} → (X → X → Ordering) → (X → List ℕ) → Meaning X
    → Result (List ℕ) QueryFault → Type 0
IsExpansion cmp line set (Ok text) = IsListed cmp line set text ⊎ IsUnknown set text
IsExpansion cmp line set (Err fault) = IsOverLimit set fault
