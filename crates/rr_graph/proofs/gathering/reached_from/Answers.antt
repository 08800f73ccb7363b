use Rattle.std.proofs.Common.{sym, subst}
use Rattle.rr_graph.specs.NumberedParts.{IsSeen}
use Rattle.rr_graph.proofs.gathering.reached_from.Goals as goal

pub reach-requires : goal.reach-requires
reach-requires g c =
    subst (λ (node : g.row.G-Node.Denot). IsSeen (g.G.Labelled.edge c.args.graph.now)
    (g.G.Labelled.shows c.args.graph.now) node
    (record { look = c.args.look; edges = c.in_ok-edges.edges })) (sym c.in_ok-node.ensures)
    (record { look = c.requires; edges = c.in_ok-edges.ensures })

pub returns : goal.returns
returns g c = rw c.in_ok-node.ensures at c.reach.ensures
