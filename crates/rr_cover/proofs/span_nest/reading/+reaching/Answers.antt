use Rattle.std.proofs.Common.{ap, subst}
use Rattle.rr_cover.specs.SpanNests.{standing, IsNest}
use Rattle.rr_cover.proofs.NestHeld.{reaching_high}
use Rattle.rr_cover.proofs.span_nest.reading.+reaching.Goals as goal

pub last_reaching-returns-in-Some-clause-found : goal.last_reaching-returns-in-Some-clause-found
last_reaching-returns-in-Some-clause-found g t c =
    let node = c.in-Fork.node.value in
    let is = subst IsNest c.in-Fork.is c.requires in
    reaching_high c.args.nest.now node.span node.value node.before node.after
    (record { all = λ s. ap (λ n. standing n s) c.in-Fork.is }) is.0.0 _ _ _ _
    (rw c.deref-in-Fork.ensures at c.in-Some.ensures.found)
