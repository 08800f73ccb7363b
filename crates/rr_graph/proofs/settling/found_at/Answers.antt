use Rattle.rr_graph.specs.SettledParts.{values_at}
use Rattle.rr_graph.proofs.KnownNodes.{listed_at}
use Rattle.rr_graph.proofs.Runs.{IsPassed-first}
use Rattle.rr_graph.proofs.settling.found_at.Goals as goal

pub returns : goal.returns
returns g c = record {
  all = listed_at (g.G.Labelled.edge c.args.graph.now) (g.G.Labelled.own c.args.graph.now)
      g.G.Labelled.passed g.G.Value.Ord.cmp
      (values_at g.G.Node.Ord.cmp c.args.settled.now.values) c.requires.settled
      c.args.node.now c.in_ok-edges.edges.items c.deref.result.now
      c.in_ok-own.own.items c.append.new.self.items c.put_in_order.new.list.items
      c.in_ok-edges.ensures c.deref.ensures.value
      (c.in_ok-add_passed.ensures.known c.if-not-branch.false) c.in_ok-own.ensures
      (IsPassed-first g.G.Labelled.passed (values_at g.G.Node.Ord.cmp c.args.settled.now.values)
      c.deref.result.now c.new-collected.result.values.items c.add_passed.new.collected.values.items
      c.in_ok-own.own.items c.append.new.self.items
      c.new-collected.ensures c.in_ok-append.ensures.items
      (c.in_ok-add_passed.ensures.passed c.if-not-branch.false))
      (c.put_in_order.ensures.same g.met.G.Labelled.exact_values);
  sorted = c.put_in_order.ensures.sorted;
}
