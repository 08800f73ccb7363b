use Rattle.std.proofs.Common.{◌≡◌, ◌↔◌, List, Contains, map, refl, subst, ap, ◌∙◌}
use Rattle.std.proofs.lemmas.Result.{IfOk-weaker}
use Rattle.rr_graph.specs.declared.labels.Edge.{Edge}
use Rattle.rr_graph.proofs.Lists.{Contains-map}
use Rattle.rr_graph.proofs.gathering.UnlabelledGraph.successors.Goals as goal

-- the ends of a node's edges are the nodes to which it leads
ends_lead : {N L : Type 0} (leaves : N → L → Type 0) (edges : List (Edge N L)) (nodes : List N) →
    ((to : N) (label : L) → Contains edges (record { to = to; label = label }) ↔ leaves to label) →
    nodes ≡ map (λ edge. edge.to) edges → (next : N) → Contains nodes next
    ↔ ((label : L) × leaves next label)
ends_lead {N} {L} leaves edges nodes are is next = (
  λ has.
      let r = (Contains-map (λ (edge : Edge N L). edge.to) edges next).0
      (subst (λ (l : List N). Contains l next) is has) in
      (r.0.label, subst (λ (to : N). leaves to r.0.label) r.2 ((are r.0.to r.0.label).0 r.1)),
  λ (label, leaves_). rw is ((Contains-map (λ (edge : Edge N L). edge.to) edges next).1
      (record { to = next; label = label }, (are next label).1 leaves_, refl)),
)

pub returns : goal.returns
returns g c =
    IfOk-weaker c.ends.result _ _
    (λ nodes is node shown. ends_lead (g.G.Labelled.edge c.args.self.now.graph.now node)
    c.args.seen.now.edges.items _ shown.edges
    (is ∙ ap (map (λ (e : Edge g.row.G-Node.Denot g.row.G-Label.Denot). e.to))
    c.deref.ensures.value)) c.ends.ensures
