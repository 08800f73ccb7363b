use Rattle.rr_index.proofs.Choices.{nothing_more, routes_more}
use Rattle.rr_index.proofs.object_map.ObjectMap.add_routes.Goals as goal

pub loop-prefix-init : goal.loop-prefix-init
loop-prefix-init c = λ k. nothing_more c.args.self.now c.args.keys.now k

pub loop-prefix-preserved : goal.loop-prefix-preserved
loop-prefix-preserved c =
    routes_more c.args.self.now c.args.prefixes.now c.loop-prefix.prefix-index c.prefix-item.result
    c.args.keys.now c.loop-prefix.keys c.add_routes_of.new.keys
    c.loop-prefix-test.true c.prefix-item.is c.loop-prefix.invariant c.in_ok-add_routes_of.ensures
