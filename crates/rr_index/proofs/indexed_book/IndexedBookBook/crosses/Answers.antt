use Rattle.std.proofs.Common.{ap, ◌∙◌}
use Rattle.rr_auth.specs.Conditions.{crosses_registered}
use Rattle.rr_index.proofs.indexed_book.IndexedBookBook.crosses.Goals as goal

pub returns : goal.returns
returns c = c.crosses.ensures c.self.inside.objects c.self.invariant.sound
    c.self.invariant.indexes.keys.spans ∙ ap (λ r. crosses_registered r c.args.key.now)
    c.self.view_is
