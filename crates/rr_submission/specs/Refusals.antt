-- How many items of a submission were refused (profile): for `submit`.
use Rattle.std.specs.Prelude.{ℕ, Bool, true, false, List, count_by}
use Rattle.rr_registry.specs.declared.outcome.Outcome.{Outcome}
use Rattle.rr_registry.specs.declared.outcome.Outcome.TheVariants.{Added, Changed, Unchanged}
use Rattle.rr_registry.specs.declared.outcome.Outcome.TheVariants.{Deleted, Refused}

-- whether an outcome is a refusal
abbrev pub is_refusal : Outcome → Bool
is_refusal Added = false
is_refusal Changed = false
is_refusal Unchanged = false
is_refusal Deleted = false
is_refusal (Refused code) = true

-- how many items were refused
abbrev pub refusals : List Outcome → ℕ
refusals outcomes = count_by is_refusal outcomes
