use Rattle.std.proofs.Common.{ℕ, List, ◌++◌, sym, subst, ap, ◌∙◌}
use Rattle.rr_registry.proofs.Open.{moved_on}
use Rattle.rr_registry.specs.OpenSpanParts.{AreKeptSpans, IsShortened}
use Rattle.rr_registry.proofs.open_spans.OpenSpans.move_on.Goals as goal

pub returns-clause-kept : goal.returns-clause-kept
returns-clause-kept c = λ gone up held.
    let outer = c.args.self.now.outer.items in
    let left = c.shorten.new.lasts.items in
    let whole = c.in_ok-append.ensures.items ∙ ap (λ xs. outer ++ xs) c.reverse.ensures.items in
    subst (λ (xs : List ℕ). AreKeptSpans gone c.args.first left xs)
    (sym c.in_ok-append.ensures.other_items)
    (moved_on gone c.args.self.now.first c.args.first outer c.args.self.now.level.items left up
    held (subst (λ (xs : List ℕ). IsShortened c.args.first xs left) whole c.shorten.ensures))
