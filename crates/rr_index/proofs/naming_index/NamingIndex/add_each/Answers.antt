use Rattle.std.proofs.Common.{◌∙◌}
use Rattle.rr_object.specs.Objects.{names_of}
use Rattle.rr_index.proofs.Namings.{counts_all, counts_begin, counts_first, counts_on}
use Rattle.rr_index.proofs.naming_index.NamingIndex.add_each.Goals as goal

pub loop-name-init : goal.loop-name-init
loop-name-init c =
    let o = c.args.object.now in
    counts_begin (names_of o) c.into_iter-name-iterator.result o.key c.args.self.now.counts
    (c.into_iter-name-iterator.ensures.into_iter_gives ∙ c.maintainers_named-name-items.ensures)

pub loop-name-preserved : goal.loop-name-preserved
loop-name-preserved c =
    let o = c.args.object.now in
    counts_on (names_of o) c.loop-name.name-iterator c.next.new.self o.key c.loop-name.counted
    c.in-Some-checked_add.more c.in-Some.name.now c.args.self.now.counts
    c.loop-name.self.counts c.raise.new.self.counts
    c.loop-name.invariant c.in-Some.ensures.steps c.in-Some-checked_add.ensures.1
    (rw c.key.ensures.value at c.in-Ok.ensures.ok)

pub returns-in_default-clause-some : goal.returns-in_default-clause-some
returns-in_default-clause-some c =
    let o = c.args.object.now in
    counts_first (names_of o) c.loop-name.name-iterator o.key c.loop-name.counted
    c.args.self.now.counts c.loop-name.self.counts c.loop-name.invariant

pub returns-in-Err-clause-some : goal.returns-in-Err-clause-some
returns-in-Err-clause-some c = λ n.
    let o = c.args.object.now in
    c.in-Err.ensures.err n
    ∙ counts_first (names_of o) c.loop-name.name-iterator o.key c.loop-name.counted
    c.args.self.now.counts c.loop-name.self.counts c.loop-name.invariant n

pub returns-clause-ok : goal.returns-clause-ok
returns-clause-ok c =
    let o = c.args.object.now in
    counts_all (names_of o) c.loop-name.name-iterator o.key c.loop-name.counted
    c.args.self.now.counts c.loop-name.self.counts c.loop-name.invariant
    c.in-None.ensures.steps.0
