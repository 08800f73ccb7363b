use Rattle.std.proofs.Common.{◌≡◌, ◌⊎◌, List, [], Contains, None, Some, inl, inr, sym, subst, ◌∙◌}
use Rattle.std.proofs.Common.{rules, arith}
use Rattle.std.specs.BTreeSet.{contains}
use Rattle.std.specs.Ordering.{ordering_then}
use Rattle.std.specs.declared.cmp.Ordering.{Ordering}
use Rattle.std.proofs.lemmas.Cmp.{on_total, then_total}
use Rattle.std.proofs.lemmas.Result.{err_from_is_err_and}
use Rattle.std.proofs.lemmas.List.Elements.{Contains-get_or}
use Rattle.std.proofs.lemmas.Map.Lookups.{exact_pairs}
use Rattle.rr_graph.specs.Chain.{IsReached, MoreThan}
use Rattle.rr_graph.specs.EffectParts.{Makes}
use Rattle.rr_graph.specs.ListingParts.{Lists}
use Rattle.rr_graph.specs.ReversedParts.{LeadsBack, edges_at}
use Rattle.rr_graph.specs.declared.labels.Edge.{Edge}
use Rattle.rr_graph.proofs.Enough.{IsCovered-more, IsCovered-none, LeadsBack-makes, there-made}
use Rattle.rr_graph.proofs.Listings.{Contains-Lists, MoreThan-listed, MoreThan-weaker}
use Rattle.rr_graph.proofs.Reached.{IsReached-edge, IsReached-start, IsSearching-all}
use Rattle.rr_graph.proofs.Reached.{IsSearching-more, IsSearching-none}
use Rattle.rr_graph.proofs.pairs.reach_back.Goals as goal

pub loop-done-init : goal.loop-done-init
loop-done-init g c =
    let P : Type 0 = g.row.G-Node.Denot × g.row.G-Value.Denot in
    let M : Type 0 = (g.row.G-Node.Denot × g.row.G-Kind.Denot) × g.row.G-Group.Denot in
    let cmp : P → P → Ordering = λ x y. ordering_then (g.G.Node.Ord.cmp x.0 y.0)
    (g.G.Value.Ord.cmp x.1 y.1) in
    let mark_cmp : M → M → Ordering = λ x y.
    ordering_then (ordering_then (g.G.Node.Ord.cmp x.0.0 y.0.0) (g.G.Kind.Ord.cmp x.0.1 y.0.1))
    (g.G.Group.Ord.cmp x.1 y.1) in
    let backward : g.row.G-Node.Denot → List (Edge g.row.G-Node.Denot g.row.G-Label.Denot) =
    edges_at g.G.Node.Ord.cmp c.args.pairs.now.backward.now.map in
    let added : Lists [] c.args.starts.items c.add_all.new.self.list.items =
    subst (λ (list : List P). Lists list c.args.starts.items c.add_all.new.self.list.items)
    c.new-found.ensures.list c.in_ok-add_all.ensures.added in (
      λ node value choice is. let wrong : None ≡ Some choice =
          sym (c.new-effects.ensures.known (node, g.G.Labelled.kind_of value)) ∙ is in cc,
      IsCovered-none g.G.Labelled.keeps g.G.Labelled.passed g.G.Labelled.kind_of
          g.G.Labelled.group_of g.met.G.Labelled.same backward
          (contains mark_cmp c.new-effects.result.marks) (Contains c.add_all.new.self.list.items)
          c.new-effects.ensures.marks,
      IsSearching-none cmp (LeadsBack g.G.Labelled.passed backward) c.args.starts.items
          c.args.limit c.add_all.new.self.list.items c.add_all.new.self.index
          c.in_ok-add_all.ensures.listing added,
    )

pub loop-done-preserved : goal.loop-done-preserved
loop-done-preserved g c =
    let P : Type 0 = g.row.G-Node.Denot × g.row.G-Value.Denot in
    let M : Type 0 = (g.row.G-Node.Denot × g.row.G-Kind.Denot) × g.row.G-Group.Denot in
    let cmp : P → P → Ordering = λ x y. ordering_then (g.G.Node.Ord.cmp x.0 y.0)
    (g.G.Value.Ord.cmp x.1 y.1) in
    let mark_cmp : M → M → Ordering = λ x y.
    ordering_then (ordering_then (g.G.Node.Ord.cmp x.0.0 y.0.0) (g.G.Kind.Ord.cmp x.0.1 y.0.1))
    (g.G.Group.Ord.cmp x.1 y.1) in
    let backward : g.row.G-Node.Denot → List (Edge g.row.G-Node.Denot g.row.G-Label.Denot) =
    edges_at g.G.Node.Ord.cmp c.args.pairs.now.backward.now.map in
    let pair : P = c.index.result.now in
    let pairs : List P = c.in_ok-carried.carried.items in
    let old : List P = c.loop-done.found.list.items in
    let new : List P = c.add_all-in-loop-done.new.self.list.items in
    let grows : (q : P) → Contains old q → Contains new q = λ q has. Contains-Lists old pairs new q
    c.in_ok-add_all-2.ensures.added has in
    let there : (q : P) → Makes g.G.Labelled.passed pair.1 (backward pair.0) q.0 q.1 →
    Contains new q =
    there-made g.G.Labelled.keeps g.G.Labelled.passed g.G.Labelled.kind_of g.G.Labelled.group_of
    g.met.G.Labelled.same backward (contains mark_cmp c.loop-done.effects.marks)
    (contains mark_cmp c.carried_back.new.effects.marks) (Contains old) (Contains new) pair.0
    pair.1 pairs
    c.loop-done.invariant.1 c.in_ok-carried.ensures.carried grows
    c.in_ok-add_all-2.ensures.added.all in (
      c.in_ok-carried.ensures.known,
      IsCovered-more g.G.Labelled.keeps g.G.Labelled.passed g.G.Labelled.kind_of
          g.G.Labelled.group_of g.met.G.Labelled.same backward
          (contains mark_cmp c.loop-done.effects.marks)
          (contains mark_cmp c.carried_back.new.effects.marks) (Contains old) (Contains new) pair.0
          pair.1 pairs
          c.loop-done.invariant.1 c.in_ok-carried.ensures.carried grows
          c.in_ok-add_all-2.ensures.added.all c.in_ok-carried.ensures.marked,
      IsSearching-more cmp (LeadsBack g.G.Labelled.passed backward) c.args.starts.items
          c.args.limit c.loop-done.done old new c.loop-done.found.index
          c.add_all-in-loop-done.new.self.index pairs pair
          c.loop-done.invariant.2 (omega arith) c.index.ensures
          (λ q has. (LeadsBack-makes g.G.Labelled.passed backward pair q).1
          (c.in_ok-carried.ensures.carried.only q has))
          (λ q step. there q ((LeadsBack-makes g.G.Labelled.passed backward pair q).0 step))
          c.in_ok-add_all-2.ensures.listing c.in_ok-add_all-2.ensures.added,
    )

pub returns-in_err-add_all : goal.returns-in_err-add_all
returns-in_err-add_all g c =
    let P : Type 0 = g.row.G-Node.Denot × g.row.G-Value.Denot in
    let leads = LeadsBack g.G.Labelled.passed
    (edges_at g.G.Node.Ord.cmp c.args.pairs.now.backward.now.map) in
    let p = err_from_is_err_and c.from_residual.result c.from_residual.ensures.1 in
    let listed_or_start = λ (list : List P). λ (node : P). Contains list node
    ⊎ Contains c.args.starts.items node in record {
      found = search rules;
      few = search rules;
      many = λ is. MoreThan-weaker c.args.limit (listed_or_start [])
          (IsReached leads c.args.starts.items)
          (λ node has. elim has [
            | inl (k, before, _) ↦ absurd (omega arith)
            | inr start ↦ IsReached-start leads c.args.starts.items node start
          ])
          (subst (λ (list : List P). MoreThan c.args.limit (listed_or_start list))
          c.new-found.ensures.list (c.in_err-add_all.ensures.many (cc (is, p.1, p.2))));
    }

pub returns-in_err-add_all-2 : goal.returns-in_err-add_all-2
returns-in_err-add_all-2 g c =
    let P : Type 0 = g.row.G-Node.Denot × g.row.G-Value.Denot in
    let backward = edges_at g.G.Node.Ord.cmp c.args.pairs.now.backward.now.map in
    let leads = LeadsBack g.G.Labelled.passed backward in
    let p = err_from_is_err_and c.from_residual-in_err-add_all-2.result
    c.from_residual-in_err-add_all-2.ensures.1 in
    let there : Contains c.loop-done.found.list.items c.index.result.now =
    subst (Contains c.loop-done.found.list.items) (sym c.index.ensures)
    (Contains-get_or c.loop-done.found.list.items c.loop-done.done c.index.result.now
    (omega arith)) in record {
      found = search rules;
      few = search rules;
      many = λ is. MoreThan-weaker c.args.limit (λ (node : P).
          Contains c.loop-done.found.list.items node
          ⊎ Contains c.in_ok-carried.carried.items node) (IsReached leads c.args.starts.items)
          (λ node has. elim has [
            | inl before ↦ c.loop-done.invariant.2.sound node before
            | inr next ↦ IsReached-edge leads c.args.starts.items c.index.result.now node
                (c.loop-done.invariant.2.sound c.index.result.now there)
                ((LeadsBack-makes g.G.Labelled.passed backward c.index.result.now node).1
                (c.in_ok-carried.ensures.carried.only node next))
          ])
          (c.in_err-add_all-2.ensures.many (cc (is, p.1, p.2)));
    }

pub returns : goal.returns
returns g c =
    let P : Type 0 = g.row.G-Node.Denot × g.row.G-Value.Denot in
    let cmp : P → P → Ordering = λ x y. ordering_then (g.G.Node.Ord.cmp x.0 y.0)
    (g.G.Value.Ord.cmp x.1 y.1) in
    let leads = LeadsBack g.G.Labelled.passed
    (edges_at g.G.Node.Ord.cmp c.args.pairs.now.backward.now.map) in
    let all = IsSearching-all cmp leads c.args.starts.items c.args.limit c.loop-done.done
    c.loop-done.found.list.items c.loop-done.found.index c.loop-done.invariant.2 (omega arith)
    in record {
      found = rw c.into_list.ensures all;
      few = MoreThan-listed (then_total (on_total (λ (q : P). q.0) g.met.G.Node.Ord.total)
          (on_total (λ (q : P). q.1) g.met.G.Value.Ord.total))
          (exact_pairs g.G.Node.Ord.cmp g.G.Value.Ord.cmp g.met.G.Labelled.exact_nodes
          g.met.G.Labelled.exact_values) c.args.limit c.loop-done.found.list.items
          (IsReached leads c.args.starts.items) c.loop-done.invariant.2.listing.few
          (λ node. (all node).1);
      many = search rules;
    }
