use Rattle.std.proofs.Common.{rules}
use Rattle.std.specs.Ordering.{is_lt}
use Rattle.std.proofs.lemmas.Fn.{always_returns_same}
use Rattle.rr_store.specs.ReadingParts.{by_key}
use Rattle.rr_store.proofs.OrderLemmas.{key_order}
use Rattle.rr_store.proofs.objects.sorted.Goals as goal

pub returns-clause-order : goal.returns-clause-order
returns-clause-order c = c.in_ok-sort_by.ensures.sorted (λ a b. is_lt (by_key a b)) key_order
    (always_returns_same _ _ _ (λ a r f k. search rules))
