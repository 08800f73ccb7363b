use Rattle.std.proofs.Common.{◌≡◌, take}
use Rattle.std.specs.FinMap.{get}
use Rattle.std.specs.List.{filter_map}
use Rattle.rr_object.specs.declared.key.Key.TheVariants.{Route}
use Rattle.rr_sets.specs.Lists.{lent}
use Rattle.rr_answer.proofs.selection.routes_from.Given as goal

-- the routes found are those of the origins so far
abbrev pub invariant-loop-origin : goal.invariant-loop-origin
invariant-loop-origin g l = lent l.found.items ≡ filter_map
    (λ n. get (g.B.Book.contents l.book) (Route l.prefix n)) (take l.origin-index l.origins)
