use Rattle.std.proofs.Common.{rules, ◌⊎◌, ◌∷◌, [], Bor, Contains, List, map, subst}
use Rattle.std.proofs.lemmas.List.{take_all}
use Rattle.std.proofs.lemmas.Result.{err_from_is_err_and}
use Rattle.rr_graph.specs.ListingParts.{Lists}
use Rattle.rr_graph.proofs.Copies.{Lists-next, among_mapped}
use Rattle.rr_graph.proofs.Listings.{Lists-none, MoreThan-weaker}
use Rattle.rr_graph.proofs.walk.FoundNodes.add_copies.Goals as goal

pub loop-node-init : goal.loop-node-init
loop-node-init g c = record {
  listing = c.requires;
  added = Lists-none c.args.self.now.list.items;
}

pub loop-node-preserved : goal.loop-node-preserved
loop-node-preserved g c = record {
  listing = c.in_ok-add_copy.ensures.listing;
  added = Lists-next (λ (n : Bor g.row.N.Denot). n.now) c.args.nodes.now c.loop-node.node-index
      c.node-item.result c.loop-node-test.true c.node-item.is c.args.self.now.list.items
      c.loop-node.self.list.items c.add_copy.new.self.list.items c.loop-node.invariant.added
      c.in_ok-add_copy.ensures.added;
}

pub returns-in_err-add_copy : goal.returns-in_err-add_copy
returns-in_err-add_copy g c =
    let p = err_from_is_err_and c.from_residual.result c.from_residual.ensures.1 in record {
      listing = search rules;
      added = search rules;
      many = λ is. MoreThan-weaker c.args.limit (λ (other : g.row.N.Denot).
          Contains c.loop-node.self.list.items other
          ⊎ Contains (c.node-item.result.now ∷ []) other)
          (λ (other : g.row.N.Denot). Contains c.args.self.now.list.items other
          ⊎ Contains (map (λ (n : Bor g.row.N.Denot). n.now) c.args.nodes.now) other)
          (among_mapped (λ (n : Bor g.row.N.Denot). n.now) c.args.nodes.now c.loop-node.node-index
          c.node-item.result c.loop-node-test.true c.node-item.is c.args.self.now.list.items
          c.loop-node.self.list.items c.loop-node.invariant.added)
          (c.in_err-add_copy.ensures.many (cc (is, p.1, p.2)));
    }

pub returns : goal.returns
returns g c = record {
  listing = c.loop-node.invariant.listing;
  added = subst (λ (l : List (Bor g.row.N.Denot)). Lists c.args.self.now.list.items
      (map (λ (n : Bor g.row.N.Denot). n.now) l) c.loop-node.self.list.items)
      (take_all c.loop-node.node-index c.args.nodes.now c.loop-node-test.false)
      c.loop-node.invariant.added;
  many = search rules;
}
