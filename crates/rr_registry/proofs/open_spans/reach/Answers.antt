use Rattle.std.proofs.Common.{◌≡◌, ◌+◌, ◌-◌, ◌≤◌, length, arith}
use Rattle.std.proofs.lemmas.Bool.{leb-true}
use Rattle.rr_registry.proofs.Open.{falling_last}
use Rattle.rr_registry.proofs.open_spans.reach.Goals as goal

pub returns-in-Some : goal.returns-in-Some
returns-in-Some c = λ test falls x at.
    let lasts = c.args.lasts.now in
    let found = c.in-Some.ensures.item.3 in
    let end : (length lasts - 1) + 1 ≡ length lasts = omega (arith, found.0) in
    let least : c.in-Some.least.now ≤ x =
    rw (found.1 0) (falling_last lasts (length lasts - 1) 0 falls end x at) in
    omega (arith, leb-true c.args.last c.in-Some.least.now test, least)
