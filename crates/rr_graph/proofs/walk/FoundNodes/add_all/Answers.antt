use Rattle.std.proofs.Common.{◌≡◌, ◌⊎◌, ◌++◌, [], ◌∷◌, List, Contains, append_assoc, sym, ap, ◌∙◌}
use Rattle.std.proofs.Common.{rules, inl, inr, subst}
use Rattle.std.proofs.lemmas.List.{append-nil}
use Rattle.std.proofs.lemmas.List.Elements.{Contains-append_left, Contains-append_right}
use Rattle.std.proofs.lemmas.List.Elements.{Contains-push}
use Rattle.std.proofs.lemmas.Result.{err_from_is_err_and}
use Rattle.rr_graph.specs.ListingParts.{Lists}
use Rattle.rr_graph.proofs.Listings.{Contains-single, Lists-more, Lists-none, MoreThan-weaker}
use Rattle.rr_graph.proofs.walk.FoundNodes.add_all.Goals as goal

pub loop-node-init : goal.loop-node-init
loop-node-init g c = record {
  listing = c.requires;
  taken = [];
  cut = sym (append-nil c.args.nodes.items);
  added = Lists-none c.args.self.now.list.items;
}

pub loop-node-preserved : goal.loop-node-preserved
loop-node-preserved g c =
    let taken : List g.row.N.Denot = c.loop-node.invariant.taken in
    record {
      listing = c.in_ok-add.ensures.listing;
      taken = c.in-Some.node ∷ taken;
      cut = c.loop-node.invariant.cut ∙ ap (λ (l : List g.row.N.Denot). l ++ taken)
          c.in-Some.ensures.items ∙ append_assoc c.pop.new.self.items (c.in-Some.node ∷ []) taken;
      added = Lists-more c.args.self.now.list.items taken c.loop-node.self.list.items
          c.add.new.self.list.items c.in-Some.node c.loop-node.invariant.added
          c.in_ok-add.ensures.added;
    }

-- what the walk had and the node are among what it began with and the nodes
earlier : {N : Type 0} (old nodes rest taken now : List N) (node : N) → nodes ≡ rest ++ taken →
    Lists old taken now → Contains rest node → (other : N) →
    Contains now other ⊎ Contains (node ∷ []) other → Contains old other ⊎ Contains nodes other
earlier old nodes rest taken now node cut added among other has =
    elim has [
      | inl there ↦ elim (added.only other there) [
        | inl at_first ↦ inl at_first
        | inr later ↦
            inr (rw cut (Contains-append_right rest taken other later))
      ]
      | inr here ↦ inr (rw cut (Contains-append_left rest taken other
          (subst (Contains rest) (Contains-single node other here) among)))
    ]

pub returns-in_err-add : goal.returns-in_err-add
returns-in_err-add g c =
    let p = err_from_is_err_and c.from_residual.result c.from_residual.ensures.1 in record {
      listing = search rules;
      added = search rules;
      many = λ is. MoreThan-weaker c.args.limit (λ (other : g.row.N.Denot).
          Contains c.loop-node.self.list.items other ⊎ Contains (c.in-Some.node ∷ []) other)
          (λ (other : g.row.N.Denot).
          Contains c.args.self.now.list.items other ⊎ Contains c.args.nodes.items other)
          (earlier c.args.self.now.list.items c.args.nodes.items c.loop-node.nodes.items
          c.loop-node.invariant.taken c.loop-node.self.list.items c.in-Some.node
          c.loop-node.invariant.cut c.loop-node.invariant.added
          (rw c.in-Some.ensures.items (Contains-push c.pop.new.self.items c.in-Some.node)))
          (c.in_err-add.ensures.many (cc (is, p.1, p.2)));
    }
