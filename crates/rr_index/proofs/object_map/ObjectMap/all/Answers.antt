use Rattle.std.proofs.Common.{List, Bor, ◌++◌, ap, sym, ◌∙◌}
use Rattle.std.specs.FinMap.{values}
use Rattle.rr_object.specs.Objects.{Obj}
use Rattle.rr_sets.specs.Lists.{lent}
use Rattle.rr_index.proofs.Kept.{found_one, registry_values}
use Rattle.rr_index.proofs.object_map.ObjectMap.all.Goals as goal

pub loop-object-init : goal.loop-object-init
loop-object-init c =
    ap (λ (xs : List (Bor Obj)). lent xs ++ c.into_iter-object-iterator.result)
    c.new-found.ensures.items
    ∙ c.into_iter-object-iterator.ensures.into_iter_gives
    ∙ c.values-object-items.ensures.rest
    ∙ sym (registry_values c.self.inside.entries c.self.invariant)
    ∙ ap values c.self.view_is

pub loop-object-preserved : goal.loop-object-preserved
loop-object-preserved c =
    found_one c.loop-object.found.items c.push.new.self.items c.in-Some.object
    (values c.args.self.now) c.loop-object.object-iterator c.next.new.self
    c.loop-object.invariant c.in-Some.ensures.steps c.in_ok-push.ensures.items
