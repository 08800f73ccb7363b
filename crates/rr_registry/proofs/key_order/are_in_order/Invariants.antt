use Rattle.std.proofs.Common.{◌≡◌, length}
use Rattle.rr_book.specs.Books.{is_in_order}
use Rattle.rr_registry.proofs.key_order.are_in_order.Given as goal

abbrev pub invariant-loop-rest : goal.invariant-loop-rest
invariant-loop-rest l = is_in_order l.objects ≡ is_in_order l.rest

abbrev pub decreases-loop-rest : goal.decreases-loop-rest
decreases-loop-rest l = length l.rest
