use Rattle.std.proofs.Common.{◌≡◌, ◌++◌, drop}
use Rattle.rr_object.specs.Items.{joined}
use Rattle.rr_object.proofs.lists.joined.Given as goal

-- what is joined so far, and what is left to join
abbrev pub invariant-values : goal.invariant-values
invariant-values l = l.text.items ++ joined (drop l.value-index l.values) ≡ joined l.values
