use Rattle.std.proofs.Common.{List, ℕ, ap, ◌∙◌}
use Rattle.std.specs.Prelude.{◌-◌}
use Rattle.rr_object.specs.Objects.{names_of}
use Rattle.rr_index.proofs.Namings.{takes_all, takes_on}
use Rattle.rr_index.specs.NamingIndexes.{count_at, namings}
use Rattle.rr_index.proofs.naming_index.NamingIndex.take.Goals as goal

pub loop-name-init : goal.loop-name-init
loop-name-init c = λ n.
    ap (λ (xs : List (List ℕ)). count_at c.args.self.now.counts n - namings n c.args.object.now.key
    xs)
    (c.into_iter-name-iterator.ensures.into_iter_gives ∙ c.maintainers_named-name-items.ensures)

pub loop-name-preserved : goal.loop-name-preserved
loop-name-preserved c =
    let o = c.args.object.now in
    takes_on (names_of o) c.loop-name.name-iterator c.next.new.self o.key c.in-Some.name.now
    c.args.self.now.counts c.loop-name.self.counts c.lower.new.self.counts
    c.loop-name.invariant c.in-Some.ensures.steps (rw c.key.ensures.value at c.lower.ensures)

pub returns : goal.returns
returns c =
    let o = c.args.object.now in
    takes_all (names_of o) c.loop-name.name-iterator o.key c.args.self.now.counts
    c.loop-name.self.counts c.loop-name.invariant c.in-None.ensures.steps.0
