use Rattle.std.proofs.Common.{◌≡◌, ◌++◌, map, take}
use Rattle.rr_store.specs.Contents.{named_values}
use Rattle.rr_store.specs.NamingParts.{naming_row}
use Rattle.rr_store.proofs.namings.push_namings.Given as goal

abbrev pub invariant-loop-name : goal.invariant-loop-name
invariant-loop-name l = map naming_row l.all.items ≡ map naming_row l.initial.all.items ++ map
    (λ name. named_values name l.class l.key) (take l.name-index l.names)
