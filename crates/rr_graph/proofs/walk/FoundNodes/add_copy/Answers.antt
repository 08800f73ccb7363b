use Rattle.std.proofs.Common.{rules, ◌≡◌, true}
use Rattle.std.specs.BTreeSet.{contains}
use Rattle.rr_graph.proofs.Listings.{Lists-again}
use Rattle.rr_graph.proofs.walk.FoundNodes.add_copy.Goals as goal

pub returns-then-contains : goal.returns-then-contains
returns-then-contains g c = record {
  listing = c.requires;
  added = let there : contains g.N.Ord.cmp c.args.self.now.index c.args.node.now ≡ true = cc in
      Lists-again c.args.self.now.list.items c.args.node.now
      ((c.requires.same c.args.node.now).0 there);
  many = search rules;
}
