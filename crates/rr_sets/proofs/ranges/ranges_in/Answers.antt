use Rattle.std.proofs.Common.{◌++◌, ◌∙◌, List, ap}
use Rattle.rr_number.specs.Ranges.{RangeParts}
use Rattle.rr_sets.proofs.RangeLists.{HasRange-from}
use Rattle.rr_sets.proofs.ranges.ranges_in.Goals as goal

pub returns : goal.returns
returns g c =
    HasRange-from (g.B.Book.contents c.args.book.now) c.args.name.now
    c.extend_from_slice.new.self.items c.in_ok-ranges.ranges.items
    c.in_ok-any_ranges.field-0.items
    (c.in_ok-extend_from_slice.ensures.items ∙ ap (λ (l : List RangeParts).
    c.in_ok-ranges.ranges.items ++ l) c.deref.ensures.value) c.in_ok-ranges.ensures
    c.in_ok-any_ranges.ensures
