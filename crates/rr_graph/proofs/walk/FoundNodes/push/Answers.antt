use Rattle.std.proofs.Common.{rules, true, subst, arith}
use Rattle.std.specs.BTreeSet.{Updates}
use Rattle.rr_graph.proofs.Listings.{IsListing-push, Lists-push, MoreThan-push}
use Rattle.rr_graph.proofs.walk.FoundNodes.push.Goals as goal

pub returns-then-len-limit : goal.returns-then-len-limit
returns-then-len-limit g c = record {
  listing = search rules;
  added = search rules;
  many = λ _. MoreThan-push g.met.N.Ord.total g.met.G.Nodes.exact c.args.limit
      c.args.self.now.list.items c.args.self.now.index c.args.node c.requires.listing
      c.requires.absent (omega arith);
}

pub returns : goal.returns
returns g c = record {
  listing = let set : Updates g.N.Ord.cmp c.args.self.now.index c.insert.new.self c.args.node true =
      subst (λ (node : g.row.N.Denot). Updates g.N.Ord.cmp c.args.self.now.index c.insert.new.self
      node true) c.in_ok-copy.ensures c.in_ok-insert.ensures.updates in
      rw c.in_ok-push.ensures.items
      (IsListing-push g.met.N.Ord.total g.met.G.Nodes.exact c.args.limit
      c.args.self.now.list.items c.args.self.now.index c.insert.new.self c.args.node
      c.requires.listing c.requires.absent (omega arith) set);
  added = rw c.in_ok-push.ensures.items (Lists-push c.args.self.now.list.items c.args.node);
  many = search rules;
}
