use Rattle.std.proofs.Common.{◌≡◌, ◌++◌}
use Rattle.std.specs.Prelude.{find}
use Rattle.std.specs.List.{filter_map}
use Rattle.std.specs.Ordering.{eq_by_cmp}
use Rattle.rr_object.specs.KeyOrders.{key_cmp}
use Rattle.rr_sets.specs.Lists.{lent}
use Rattle.rr_book.proofs.set_index.objects_of.Given as goal

-- the objects found and those that the keys to come lead to are all
abbrev pub invariant-loop-key : goal.invariant-loop-key
invariant-loop-key l =
    lent l.found.items ++ filter_map (λ key. find (λ o. eq_by_cmp key_cmp key o.key) l.objects)
    l.key-iterator ≡ filter_map (λ key. find (λ o. eq_by_cmp key_cmp key o.key) l.objects)
    l.keys.keys
