use Rattle.std.proofs.Common.{◌≡◌, ◌≤◌, ◌-◌, true, false, ap, subst, arith}
use Rattle.rr_cover.specs.PrefixTrees.{IsTree}
use Rattle.rr_cover.specs.TreeParts.{room}
use Rattle.rr_cover.proofs.TreeRoom.{room_falls}
use Rattle.rr_cover.proofs.prefix_tree.reading.+levels.Goals as goal

pub returns-in-Fork : goal.returns-in-Fork
returns-in-Fork g t c =
    let node = c.in-Fork.node.value in
    let is = subst IsTree c.in-Fork.is c.requires in
    let low = room_falls node.prefix false node.lower is.0.masked is.0.low is.1.0 in
    let high = room_falls node.prefix true node.upper is.0.masked is.0.high is.1.1 in
    let lower : c.levels.result ≤ room node.lower = rw c.deref.ensures at c.levels.ensures in
    let upper : c.levels-in-Fork.result ≤ room node.upper = rw c.deref-in-Fork.ensures at
    c.levels-in-Fork.ensures in
    let at : room c.args.tree.now ≡ 33 - node.prefix.length = ap room c.in-Fork.is in
    omega (arith, low, high, lower, upper, at, c.max.ensures)
