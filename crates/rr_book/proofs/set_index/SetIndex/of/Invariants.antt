use Rattle.std.proofs.Common.{◌≡◌, ◌&&◌, ℕ, List, take}
use Rattle.std.specs.List.{list_any}
use Rattle.std.specs.Ordering.{eq_by_cmp}
use Rattle.rr_object.specs.declared.key.Key.{Key}
use Rattle.rr_object.specs.KeyOrders.{key_cmp}
use Rattle.rr_book.specs.SetIndexes.{stands_under}
use Rattle.rr_book.specs.SetLists.{names_set}
use Rattle.rr_book.proofs.set_index.SetIndex.of.Given as goal

abbrev pub invariant-loop-object : goal.invariant-loop-object
invariant-loop-object l =
    (name : List ℕ) (key : Key) → stands_under l.referrers.keys name key ≡ list_any
    (λ o. names_set name o && eq_by_cmp key_cmp o.key key) (take l.object-index l.objects)
