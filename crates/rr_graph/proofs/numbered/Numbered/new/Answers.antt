use Rattle.std.specs.BTreeMap.{get}
use Rattle.std.specs.Ordering.{nat_cmp}
use Rattle.rr_graph.specs.ReversedParts.{edges_at}
use Rattle.rr_graph.proofs.Seeing.{IsNumbered-seen}
use Rattle.rr_graph.proofs.numbered.Numbered.new.Goals as goal

pub returns-clause-edges : goal.returns-clause-edges
returns-clause-edges g c =
    IsNumbered-seen (g.G.Labelled.edge c.args.graph.now) (g.G.Labelled.shows c.args.graph.now)
    c.args.nodes.now (get g.G.Node.Ord.cmp c.in_ok-places.places) c.args.seen.now
    (edges_at nat_cmp c.in_ok-edges.edges) c.in_ok-places.ensures c.requires.seen
    c.in_ok-edges.ensures
