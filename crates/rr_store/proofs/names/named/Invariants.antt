use Rattle.std.proofs.Common.{◌≡◌, ◌++◌}
use Rattle.rr_object.specs.Objects.{names_of}
use Rattle.rr_store.proofs.names.named.Given as goal

abbrev pub invariant-loop-name : goal.invariant-loop-name
invariant-loop-name l = l.all.items ++ l.name-iterator ≡ names_of l.object
