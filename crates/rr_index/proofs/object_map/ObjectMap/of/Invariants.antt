use Rattle.std.proofs.Common.{◌≡◌, map}
use Rattle.rr_book.specs.Books.{entry}
use Rattle.rr_index.proofs.object_map.ObjectMap.of.Given as goal

-- the entries are those of the objects that were yielded
abbrev pub invariant-loop-object : goal.invariant-loop-object
invariant-loop-object l = l.entries.items ≡ map entry l.yielded
