use Rattle.std.specs.FinMap.{values}
use Rattle.rr_book.proofs.Origins.{collected_rise}
use Rattle.rr_index.proofs.Listed.{in_order}
use Rattle.rr_index.proofs.indexed_book.IndexedBookBook.origins.Goals as goal

pub returns-clause-ascending : goal.returns-clause-ascending
returns-clause-ascending c =
    collected_rise (λ v. v.items) c.args.prefix (values c.self.inside.objects) c.origins.result
    (in_order c.self.inside.objects c.self.invariant.sound) c.origins.ensures
