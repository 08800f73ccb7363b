use Rattle.std.proofs.Common.{List, Bor, ◌++◌, ap, ◌∙◌}
use Rattle.std.specs.Map.{values_of}
use Rattle.rr_object.specs.Objects.{Obj}
use Rattle.rr_sets.specs.Lists.{lent}
use Rattle.rr_index.proofs.object_map.ObjectMap.listed.Goals as goal

pub loop-object-init : goal.loop-object-init
loop-object-init c =
    ap (λ (xs : List (Bor Obj)). lent xs ++ values_of c.into_iter-object-iterator.result)
    c.new-found.ensures.items
    ∙ ap values_of (c.into_iter-object-iterator.ensures.into_iter_gives
    ∙ c.between-object-items.ensures)
