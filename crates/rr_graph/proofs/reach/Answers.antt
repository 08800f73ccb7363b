use Rattle.std.proofs.Common.{rules, ◌⊎◌, ◌↔◌, ◌<◌, List, [], ◌∷◌, Bor, Contains, inl, inr, sym}
use Rattle.std.proofs.Common.{◌≡◌, map, ◌∙◌, length, subst, arith}
use Rattle.std.proofs.lemmas.List.Elements.{Contains-get_or}
use Rattle.std.proofs.lemmas.Result.{err_from_is_err_and}
use Rattle.rr_graph.specs.Chain.{IsReached, MoreThan}
use Rattle.rr_graph.specs.ListingParts.{Lists}
use Rattle.rr_graph.proofs.Listings.{MoreThan-listed, MoreThan-weaker}
use Rattle.rr_graph.proofs.Lists.{Contains-head, Contains-nil}
use Rattle.rr_graph.proofs.Reached.{IsReached-edge, IsReached-start, IsSearching-all}
use Rattle.rr_graph.proofs.Reached.{IsSearching-more, IsSearching-none}
use Rattle.rr_graph.proofs.Seeing.{looks_more, none_long, one_first, one_longer}
use Rattle.rr_graph.proofs.reach.Goals as goal

-- nothing was looked at, as the start was entered
pub loop-done-init : goal.loop-done-init
loop-done-init g c =
    let N : Type 0 = g.row.G-Node.Denot in
    let edge = g.G.Graph.edge c.args.graph.now in
    let added : Lists [] (c.args.start ∷ []) c.add.new.self.list.items =
    subst (λ (list : List N). Lists list (c.args.start ∷ []) c.add.new.self.list.items)
    c.new-found.ensures.list c.in_ok-add.ensures.added in
    let (some, first) = one_first c.args.start c.add.new.self.list.items added in
    let leads : (next : N) → Contains (map (λ (n : Bor N). n.now) c.deref.result.now) next
    ↔ edge c.args.start next =
    subst (λ (l : List (Bor N)). (next : N) → Contains (map (λ (n : Bor N). n.now) l) next
    ↔ edge c.args.start next) (sym c.deref.ensures.value)
    (c.in_ok-successors.ensures c.args.start c.requires) in record {
      walk = IsSearching-more g.G.Node.Ord.cmp edge (c.args.start ∷ []) c.args.limit 0
          c.add.new.self.list.items c.add_copies.new.self.list.items c.add.new.self.index
          c.add_copies.new.self.index (map (λ (n : Bor N). n.now) c.deref.result.now) c.args.start
          (IsSearching-none g.G.Node.Ord.cmp edge (c.args.start ∷ []) c.args.limit
          c.add.new.self.list.items c.add.new.self.index c.in_ok-add.ensures.listing added) some
          first (λ next. (leads next).0)
          (λ next step. c.in_ok-add_copies.ensures.added.all next ((leads next).1 step))
          c.in_ok-add_copies.ensures.listing c.in_ok-add_copies.ensures.added;
      count = one_longer c.new-looks.result.items c.push.new.self.items c.args.look 0
          (none_long c.new-looks.result.items c.new-looks.ensures.items)
          c.in_ok-push.ensures.items;
      looks = looks_more (g.G.Graph.shows c.args.graph.now) 0 c.add.new.self.list.items
          c.in_ok-add_copies.ensures.added.more c.add_copies.new.self.list.items
          c.new-looks.result.items c.push.new.self.items c.args.start c.args.look
          (none_long c.new-looks.result.items c.new-looks.ensures.items)
          (λ p n k less. absurd (omega arith)) some first
          c.in_ok-add_copies.ensures.added.after c.in_ok-push.ensures.items c.requires;
    }

pub loop-done-preserved : goal.loop-done-preserved
loop-done-preserved g c =
    let N : Type 0 = g.row.G-Node.Denot in
    let edge = g.G.Graph.edge c.args.graph.now in
    let before : c.loop-done.done < length c.loop-done.found.list.items = omega arith in
    let leads : (next : N) → Contains (map (λ (n : Bor N). n.now) c.deref-in-loop-done.result.now)
    next ↔ edge c.index.result.now next =
    subst (λ (l : List (Bor N)). (next : N) → Contains (map (λ (n : Bor N). n.now) l) next
    ↔ edge c.index.result.now next) (sym c.deref-in-loop-done.ensures.value)
    (c.in_ok-successors-2.ensures c.index.result.now c.in_ok-look.ensures) in record {
      walk = IsSearching-more g.G.Node.Ord.cmp edge (c.args.start ∷ []) c.args.limit
          c.loop-done.done c.loop-done.found.list.items
          c.add_copies-in-loop-done.new.self.list.items c.loop-done.found.index
          c.add_copies-in-loop-done.new.self.index
          (map (λ (n : Bor N). n.now) c.deref-in-loop-done.result.now) c.index.result.now
          c.loop-done.invariant.walk before c.index.ensures (λ next. (leads next).0)
          (λ next step. c.in_ok-add_copies-2.ensures.added.all next ((leads next).1 step))
          c.in_ok-add_copies-2.ensures.listing c.in_ok-add_copies-2.ensures.added;
      count = one_longer c.loop-done.looks.items c.push-in-loop-done.new.self.items
          c.in_ok-look.look c.loop-done.done c.loop-done.invariant.count
          c.in_ok-push-2.ensures.items;
      looks = looks_more (g.G.Graph.shows c.args.graph.now) c.loop-done.done
          c.loop-done.found.list.items c.in_ok-add_copies-2.ensures.added.more
          c.add_copies-in-loop-done.new.self.list.items c.loop-done.looks.items
          c.push-in-loop-done.new.self.items c.index.result.now c.in_ok-look.look
          c.loop-done.invariant.count c.loop-done.invariant.looks before c.index.ensures
          c.in_ok-add_copies-2.ensures.added.after c.in_ok-push-2.ensures.items
          c.in_ok-look.ensures;
    }

pub returns-in_err-add : goal.returns-in_err-add
returns-in_err-add g c =
    let p = err_from_is_err_and c.from_residual.result c.from_residual.ensures.1 in
    let N : Type 0 = g.row.G-Node.Denot in
    let listed_or_start = λ (list : List N). λ (node : N).
    Contains list node ⊎ Contains (c.args.start ∷ []) node in record {
      found = search rules;
      few = search rules;
      many = λ is. MoreThan-weaker c.args.limit (listed_or_start [])
          (IsReached (g.G.Graph.edge c.args.graph.now) (c.args.start ∷ []))
          (λ node has. elim has [
            | inl none ↦ absurd (Contains-nil node none)
            | inr start ↦ IsReached-start (g.G.Graph.edge c.args.graph.now) (c.args.start ∷ [])
                node start
          ])
          (subst (λ (list : List N). MoreThan c.args.limit (listed_or_start list))
          c.new-found.ensures.list (c.in_err-add.ensures.many (cc (is, p.1, p.2))));
    }

pub returns-in_err-add_copies : goal.returns-in_err-add_copies
returns-in_err-add_copies g c =
    let p = err_from_is_err_and c.from_residual-in_err-add_copies.result
    c.from_residual-in_err-add_copies.ensures.1 in
    let N : Type 0 = g.row.G-Node.Denot in
    let edge = g.G.Graph.edge c.args.graph.now in
    let added : Lists [] (c.args.start ∷ []) c.add.new.self.list.items =
    subst (λ (list : List N). Lists list (c.args.start ∷ []) c.add.new.self.list.items)
    c.new-found.ensures.list c.in_ok-add.ensures.added in
    let start : IsReached edge (c.args.start ∷ []) c.args.start =
    IsReached-start edge (c.args.start ∷ []) c.args.start (Contains-head c.args.start []) in
    record {
      found = search rules;
      few = search rules;
      many = λ is. MoreThan-weaker c.args.limit (λ (node : N). Contains c.add.new.self.list.items
          node ⊎ Contains (map (λ (n : Bor N). n.now) c.deref.result.now) node)
          (IsReached edge (c.args.start ∷ []))
          (λ node has. elim has [
            | inl there ↦ elim (added.only node there) [
              | inl none ↦ absurd (Contains-nil node none)
              | inr same ↦ IsReached-start edge (c.args.start ∷ []) node same
            ]
            | inr next ↦ IsReached-edge edge (c.args.start ∷ []) c.args.start node start
                ((c.in_ok-successors.ensures c.args.start c.requires node).0
                (subst (λ (l : List (Bor N)). Contains (map (λ (n : Bor N). n.now) l) node)
                c.deref.ensures.value next))
          ])
          (c.in_err-add_copies.ensures.many (cc (is, p.1, p.2)));
    }

pub returns-in_err-add_copies-2 : goal.returns-in_err-add_copies-2
returns-in_err-add_copies-2 g c =
    let p = err_from_is_err_and c.from_residual-in_err-add_copies-2.result
    c.from_residual-in_err-add_copies-2.ensures.1 in
    let N : Type 0 = g.row.G-Node.Denot in
    let edge = g.G.Graph.edge c.args.graph.now in
    let there : Contains c.loop-done.found.list.items c.index.result.now =
    subst (Contains c.loop-done.found.list.items) (sym c.index.ensures)
    (Contains-get_or c.loop-done.found.list.items c.loop-done.done c.index.result.now
    (omega arith)) in record {
      found = search rules;
      few = search rules;
      many = λ is. MoreThan-weaker c.args.limit (λ (node : N).
          Contains c.loop-done.found.list.items node
          ⊎ Contains (map (λ (n : Bor N). n.now) c.deref-in-loop-done.result.now) node)
          (IsReached edge (c.args.start ∷ []))
          (λ node has. elim has [
            | inl before ↦ c.loop-done.invariant.walk.sound node before
            | inr next ↦ IsReached-edge edge (c.args.start ∷ []) c.index.result.now node
                (c.loop-done.invariant.walk.sound c.index.result.now there)
                ((c.in_ok-successors-2.ensures c.index.result.now c.in_ok-look.ensures node).0
                (subst (λ (l : List (Bor N)). Contains (map (λ (n : Bor N). n.now) l) node)
                c.deref-in-loop-done.ensures.value next))
          ])
          (c.in_err-add_copies-2.ensures.many (cc (is, p.1, p.2)));
    }

pub returns : goal.returns
returns g c =
    let edge = g.G.Graph.edge c.args.graph.now in
    let all = IsSearching-all g.G.Node.Ord.cmp edge (c.args.start ∷ []) c.args.limit
    c.loop-done.done c.loop-done.found.list.items c.loop-done.found.index
    c.loop-done.invariant.walk (omega arith) in
    let whole : length c.loop-done.found.list.items ≡ c.loop-done.done =
    omega (arith, c.loop-done.invariant.walk.inside) in record {
      found = rw c.into_list.ensures (record {
        nodes = record { all = all; once = c.loop-done.invariant.walk.listing.once };
        looks = record {
          long = c.loop-done.invariant.count ∙ sym whole;
          each = λ place node look less. c.loop-done.invariant.looks place node look
              (omega arith);
        };
      });
      few = MoreThan-listed g.met.G.Node.Ord.total g.met.G.Nodes.exact c.args.limit
          c.loop-done.found.list.items (IsReached edge (c.args.start ∷ []))
          c.loop-done.invariant.walk.listing.few (λ node. (all node).1);
      many = search rules;
    }
