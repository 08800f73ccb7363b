use Rattle.std.proofs.Common.{List, ℕ, take, ap, ◌∙◌}
use Rattle.std.specs.Prelude.{◌-◌}
use Rattle.rr_object.specs.Objects.{names_of}
use Rattle.rr_index.proofs.Namings.{prefix_empty, prefix_none, prefix_on, takes_all, takes_on}
use Rattle.rr_index.specs.NamingIndexes.{count_at, namings}
use Rattle.rr_index.proofs.naming_index.NamingIndex.take_first.Goals as goal

pub loop-name-init : goal.loop-name-init
loop-name-init c = λ n.
    ap (λ (xs : List (List ℕ)). count_at c.args.self.now.counts n - namings n c.args.object.now.key
    (take c.args.counted xs))
    (c.into_iter-name-iterator.ensures.into_iter_gives ∙ c.maintainers_named-name-items.ensures)

pub loop-name-preserved : goal.loop-name-preserved
loop-name-preserved c =
    let o = c.args.object.now in
    takes_on (take c.args.counted (names_of o)) (take c.loop-name.left c.loop-name.name-iterator)
    (take (c.loop-name.left - 1) c.next.new.self) o.key c.in-Some.name.now
    c.args.self.now.counts c.loop-name.self.counts c.lower.new.self.counts
    c.loop-name.invariant (ap (take c.loop-name.left) c.in-Some.ensures.steps ∙ prefix_on
    c.loop-name.left c.in-Some.name.now c.next.new.self c.if-left-eq0.false)
    (rw c.key.ensures.value at c.lower.ensures)

pub returns-then-left-eq0 : goal.returns-then-left-eq0
returns-then-left-eq0 c =
    let o = c.args.object.now in
    takes_all (take c.args.counted (names_of o)) (take c.loop-name.left c.loop-name.name-iterator)
    o.key c.args.self.now.counts c.loop-name.self.counts c.loop-name.invariant
    (prefix_none c.loop-name.left c.loop-name.name-iterator c.if-left-eq0.true)

pub returns : goal.returns
returns c =
    let o = c.args.object.now in
    takes_all (take c.args.counted (names_of o)) (take c.loop-name.left c.loop-name.name-iterator)
    o.key c.args.self.now.counts c.loop-name.self.counts c.loop-name.invariant
    (prefix_empty c.loop-name.left c.loop-name.name-iterator c.in-None.ensures.steps.0)
