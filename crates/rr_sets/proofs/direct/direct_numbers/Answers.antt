use Rattle.std.proofs.Common.{◌++◌, ◌∙◌, ℕ, List, ap}
use Rattle.rr_sets.proofs.Numbers.{IsDirect-from}
use Rattle.rr_sets.proofs.direct.direct_numbers.Goals as goal

pub returns : goal.returns
returns g c =
    IsDirect-from (g.B.Book.contents c.args.book.now) c.args.name.now
    c.extend_from_slice.new.self.items c.in_ok-numbers.numbers.items
    c.in_ok-any_numbers.field-0.items
    (c.in_ok-extend_from_slice.ensures.items ∙ ap (λ (l : List ℕ). c.in_ok-numbers.numbers.items ++
    l) c.deref.ensures.value) c.in_ok-numbers.ensures c.in_ok-any_numbers.ensures
