use Rattle.std.proofs.Common.{rules, ◌≡◌, ◌+◌, ◌<◌, ◌≤◌, length, subst, arith}
use Rattle.std.proofs.lemmas.Grind.{common_steps}
use Rattle.rr_graph.specs.SettledParts.{IsTallied, values_at}
use Rattle.rr_graph.proofs.KnownNodes.{IsTallied-entered, MoreThan-entered}
use Rattle.rr_graph.proofs.settled.Settled.enter.Goals as goal

pub returns-then-len-room-clause-many : goal.returns-then-len-room-clause-many
returns-then-len-room-clause-many g c = λ _.
    let full : c.args.limit < c.args.self.now.pairs + length c.args.values.items =
    grind (arith, common_steps) in
    MoreThan-entered (values_at g.G.Node.Ord.cmp c.args.self.now.values) c.args.node
    c.args.values.items c.requires.absent g.met.G.Value.Ord.total c.requires.sorted
    c.args.limit c.args.self.now.pairs c.requires.tallied full

pub returns-clause-tallied : goal.returns-clause-tallied
returns-clause-tallied g c =
    let long : length c.args.values.items ≡ c.len-2.result = grind (arith, common_steps) in
    let fits : c.args.self.now.pairs + length c.args.values.items ≤ c.args.limit =
    grind (arith, common_steps) in
    subst (λ n. IsTallied (values_at g.G.Node.Ord.cmp c.insert.new.self) c.args.limit
    (c.args.self.now.pairs + n)) long
    (IsTallied-entered (values_at g.G.Node.Ord.cmp c.args.self.now.values) c.args.node
    c.args.values.items c.requires.absent g.met.G.Value.Ord.total c.requires.sorted
    c.args.limit c.args.self.now.pairs c.requires.tallied g.met.G.Node.Ord.total
    g.met.G.Labelled.exact_nodes (values_at g.G.Node.Ord.cmp c.insert.new.self) (search rules)
    fits)
