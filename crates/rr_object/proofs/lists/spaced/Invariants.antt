use Rattle.std.proofs.Common.{◌≡◌, ◌++◌, drop}
use Rattle.rr_object.specs.Items.{spaced}
use Rattle.rr_object.proofs.lists.spaced.Given as goal

-- what is spaced so far, and what is left to space
abbrev pub invariant-bytes : goal.invariant-bytes
invariant-bytes l = l.out.items ++ spaced (drop l.b-index l.text) ≡ spaced l.text
