use Rattle.std.proofs.Common.{sym, subst}
use Rattle.rr_auth.specs.Registries.{Reg}
use Rattle.rr_book.proofs.Order.{empty_book}
use Rattle.rr_index.specs.Indexes.{HasIndexes}
use Rattle.rr_index.proofs.Entered.{entered_more, next_uncrossed, next_under_none}
use Rattle.rr_index.proofs.indexes.Indexes.of.Goals as goal

pub loop-object-init : goal.loop-object-init
loop-object-init c = subst (λ (r : Reg). HasIndexes r c.new-indexes.result) (sym empty_book)
    c.new-indexes.ensures

pub enter-requires : goal.enter-requires
enter-requires c = record {
  fresh = next_under_none c.args.objects.now c.loop-object.object-index c.object-item.result
      c.requires c.loop-object-test.true c.object-item.is c.loop-object.indexes
      c.loop-object.invariant;
  apart = next_uncrossed c.args.objects.now c.loop-object.object-index c.object-item.result
      c.requires c.loop-object-test.true c.object-item.is c.loop-object.indexes
      c.loop-object.invariant;
}

pub loop-object-preserved : goal.loop-object-preserved
loop-object-preserved c =
    entered_more c.args.objects.now c.loop-object.object-index c.object-item.result c.requires
    c.loop-object-test.true c.object-item.is c.loop-object.indexes
    c.enter.new.self c.loop-object.invariant c.in_ok-enter.ensures.ok
