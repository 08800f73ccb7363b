use Rattle.std.proofs.Common.{rules, inl, inr}
use Rattle.rr_graph.specs.NumberedParts.{IsSeen}
use Rattle.rr_graph.specs.declared.labels.Seen.{Seen}
use Rattle.rr_graph.proofs.Seeing.{AreLooks-map}
use Rattle.rr_graph.proofs.gathering.gather.Goals as goal

pub returns : goal.returns
returns g c =
    let S : Type 0 = Seen g.row.G-Node.Denot g.row.G-Label.Denot g.row.G-Look.Denot in record {
      found = record {
        nodes = c.in_ok-visits.ensures.found.nodes;
        looks = AreLooks-map (g.G.Labelled.shows c.args.graph.now)
            (IsSeen (g.G.Labelled.edge c.args.graph.now) (g.G.Labelled.shows c.args.graph.now))
            (λ (s : S). s.look) c.in_ok-visits.visits.nodes.items
            c.in_ok-visits.visits.looks.items c.in_ok-looks.looks.items (λ n s seen. seen.look)
            c.in_ok-looks.ensures c.in_ok-visits.ensures.found.looks;
        values = c.in_ok-values.ensures.found;
      };
      few = λ many. elim many [
        | inl names ↦ c.in_ok-visits.ensures.few names
        | inr pairs ↦ c.in_ok-values.ensures.few pairs
      ];
      many = search rules;
    }
