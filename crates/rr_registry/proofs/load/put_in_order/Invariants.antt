use Rattle.std.proofs.Common.{◌≡◌, ◌+◌, ◌<◌, ◌^◌, [], length}
use Rattle.std.specs.FinMap.{empty}
use Rattle.std.specs.Vec.Iter.{into_iter_items, into_iter_len}
use Rattle.rr_book.specs.Books.{book_of}
use Rattle.rr_registry.specs.Loading.{clash, gathered}
use Rattle.rr_registry.specs.Private.{IsConsistent, objects_of}
use Rattle.rr_registry.proofs.load.put_in_order.Given as goal

abbrev pub invariant-loop-object : goal.invariant-loop-object
invariant-loop-object l =
    IsConsistent l.gathered
    × (clash (objects_of l.gathered) (l.n + 1) (into_iter_items l.object-iterator) ≡ clash [] 1
    l.fn.objects.items)
    × (gathered (book_of (objects_of l.gathered)) (into_iter_items l.object-iterator) ≡ gathered
    empty l.fn.objects.items)
    × (l.n + into_iter_len l.object-iterator < 2 ^ 64)
    × (into_iter_len l.object-iterator ≡ length (into_iter_items l.object-iterator))
