use Rattle.std.proofs.Common.{arith}
use Rattle.rr_cover.proofs.TreeRoom.{room_most}
use Rattle.rr_cover.proofs.prefix_tree.PrefixTree.levels.Goals as goal

pub returns : goal.returns
returns g c =
    let most = room_most c.self.inside.root in
    omega (arith, c.levels.ensures, most)
