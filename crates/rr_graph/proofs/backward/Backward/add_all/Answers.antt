use Rattle.std.proofs.Common.{◌≡◌, ◌∙◌, ◌++◌, [], ◌∷◌, List, ap, append_assoc, sym, cond, subst}
use Rattle.std.proofs.Common.{arith}
use Rattle.std.specs.BTreeMap.{is_at}
use Rattle.std.proofs.lemmas.Grind.{common_steps}
use Rattle.std.proofs.lemmas.List.{append-nil}
use Rattle.rr_graph.specs.ReversedParts.{AddsBackward, edges_at}
use Rattle.rr_graph.specs.declared.labels.Edge.{Edge}
use Rattle.rr_graph.proofs.Backwards.{AddsBackward-more, AddsBackward-none}
use Rattle.rr_graph.proofs.backward.Backward.add_all.Goals as goal

pub loop-edge-init : goal.loop-edge-init
loop-edge-init g c = record {
  taken = [];
  cut = sym (append-nil c.args.edges.items);
  added =
      AddsBackward-none (edges_at g.N.Ord.cmp c.args.self.now.map) c.args.tail.now;
}

pub loop-edge-preserved : goal.loop-edge-preserved
loop-edge-preserved g c =
    let taken : List (Edge g.row.N.Denot g.row.L.Denot) = c.loop-edge.invariant.taken in
    record {
      taken = c.in-Some.edge ∷ taken;
      cut = c.loop-edge.invariant.cut ∙ ap (λ (l : List (Edge g.row.N.Denot g.row.L.Denot)).
          l ++ taken) c.in-Some.ensures.items ∙ append_assoc c.pop.new.self.items
          (c.in-Some.edge ∷ []) taken;
      added = AddsBackward-more g.met.N.Ord.total g.met.G.Labelled.exact_nodes
          (edges_at g.N.Ord.cmp c.args.self.now.map) (edges_at g.N.Ord.cmp c.loop-edge.self.map)
          (edges_at g.N.Ord.cmp c.add.new.self.map) c.args.tail.now taken c.in-Some.edge
          c.loop-edge.invariant.added
          (subst
          (λ (to : g.row.N.Denot). (node : g.row.N.Denot) → edges_at g.N.Ord.cmp c.add.new.self.map
          node ≡ cond (is_at (g.N.Ord.cmp c.in-Some.edge.to) node)
          (edges_at g.N.Ord.cmp c.loop-edge.self.map c.in-Some.edge.to ++ record
          { to = to; label = c.in-Some.edge.label } ∷ [])
          (edges_at g.N.Ord.cmp c.loop-edge.self.map node))
          c.in_ok-to.ensures c.in_ok-add.ensures);
    }

pub returns : goal.returns
returns g c =
    let empty : c.loop-edge.edges.items ≡ [] = grind (arith, common_steps) in
    let taken : List (Edge g.row.N.Denot g.row.L.Denot) = c.loop-edge.invariant.taken in
    subst (λ (l : List (Edge g.row.N.Denot g.row.L.Denot)).
    AddsBackward (edges_at g.N.Ord.cmp c.args.self.now.map) c.args.tail.now l
    (edges_at g.N.Ord.cmp c.loop-edge.self.map))
    (sym (c.loop-edge.invariant.cut ∙ ap (λ (l : List (Edge g.row.N.Denot g.row.L.Denot)).
    l ++ taken) empty)) c.loop-edge.invariant.added
