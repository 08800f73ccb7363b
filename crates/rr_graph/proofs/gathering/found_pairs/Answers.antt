use Rattle.rr_graph.specs.Chain.{IsReached}
use Rattle.rr_graph.specs.ReversedParts.{IsCarriedPair, LeadsBack, edges_at}
use Rattle.rr_graph.proofs.CarriedBack.{IsCarriedPair-reached}
use Rattle.rr_graph.proofs.Finding.{FindsWithin-alike}
use Rattle.rr_graph.proofs.gathering.found_pairs.Goals as goal

pub returns : goal.returns
returns g c =
    let same = IsCarriedPair-reached (g.G.Labelled.edge c.args.graph.now)
    (g.G.Labelled.own c.args.graph.now) g.G.Labelled.passed c.args.nodes.now
    (edges_at g.G.Node.Ord.cmp c.in_ok-backward.backward.map) c.in_ok-starts.starts.items
    c.in_ok-backward.ensures c.in_ok-starts.ensures in
    FindsWithin-alike c.args.limit (IsReached
    (LeadsBack g.G.Labelled.passed (edges_at g.G.Node.Ord.cmp c.in_ok-backward.backward.map))
    c.in_ok-starts.starts.items) (IsCarriedPair (g.G.Labelled.edge c.args.graph.now)
    (g.G.Labelled.own c.args.graph.now) g.G.Labelled.passed c.args.nodes.now)
    c.reach_back.ensures
    (λ pairs is p.
    (λ has. (same p).0 ((is p).0 has), λ carried. (is p).1 ((same p).1 carried)))
    (λ p. ((same p).0, (same p).1))
