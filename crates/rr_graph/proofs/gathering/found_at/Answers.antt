use Rattle.std.proofs.Common.{rules, ◌↔◌, [], refl}
use Rattle.std.proofs.lemmas.Result.{err_from_is_err_and}
use Rattle.rr_graph.specs.Carried.{IsFoundPair}
use Rattle.rr_graph.specs.ReversedParts.{IsCarriedPair}
use Rattle.rr_graph.specs.SettledParts.{IsFoundAmong, values_at}
use Rattle.rr_graph.proofs.CarriedBack.{IsFoundPair-carried}
use Rattle.rr_graph.proofs.Finding.{FindsWithin-alike}
use Rattle.rr_graph.proofs.KnownNodes.{few_settled}
use Rattle.rr_graph.proofs.Lists.{Contains-head}
use Rattle.rr_graph.proofs.Listings.{MoreThan-weaker}
use Rattle.rr_graph.proofs.gathering.found_at.Goals as goal

pub returns-in_err-settled : goal.returns-in_err-settled
returns-in_err-settled g c =
    let p = err_from_is_err_and c.from_residual.result c.from_residual.ensures.1 in record {
      found = search rules;
      few = search rules;
      many = λ is. MoreThan-weaker c.args.limit (IsFoundAmong (g.G.Labelled.edge c.args.graph.now)
          (g.G.Labelled.own c.args.graph.now) g.G.Labelled.passed c.args.ordered.now.nodes.now)
          (IsFoundPair (g.G.Labelled.edge c.args.graph.now) (g.G.Labelled.own c.args.graph.now)
          g.G.Labelled.passed c.args.start.now)
          (λ q both. ((c.requires.reached q.0).0 both.0, both.1))
          (c.in_err-settled.ensures.many (cc (is, p.1, p.2)));
    }

pub returns-in-Some : goal.returns-in-Some
returns-in-Some g c = record {
  found = c.in_ok-settled.ensures.held.values c.args.start.now c.in-Some.values.items
      c.in-Some.ensures.at;
  few = few_settled g.met.G.Node.Ord.total g.met.G.Labelled.exact_nodes g.met.G.Value.Ord.total
      g.met.G.Labelled.exact_values (g.G.Labelled.edge c.args.graph.now)
      (g.G.Labelled.own c.args.graph.now) g.G.Labelled.passed
      (values_at g.G.Node.Ord.cmp c.in_ok-settled.settled.values) c.args.start.now c.args.limit
      c.in_ok-settled.settled.pairs
      c.in_ok-settled.ensures.held.values c.in_ok-settled.ensures.held.tallied
      (λ node name. c.in-Some.ensures.all node ((c.requires.reached node).1 name));
  many = search rules;
}

pub returns-in-None : goal.returns-in-None
returns-in-None g c =
    let carried : (p : g.row.G-Node.Denot × g.row.G-Value.Denot) →
    IsCarriedPair (g.G.Labelled.edge c.args.graph.now) (g.G.Labelled.own c.args.graph.now)
    g.G.Labelled.passed c.args.ordered.now.nodes.now p
    ↔ IsFoundPair (g.G.Labelled.edge c.args.graph.now)
    (g.G.Labelled.own c.args.graph.now) g.G.Labelled.passed c.args.start.now p =
    IsFoundPair-carried (g.G.Labelled.edge c.args.graph.now) (g.G.Labelled.own c.args.graph.now)
    g.G.Labelled.passed c.args.start.now c.args.ordered.now.nodes.now c.requires.reached in
    FindsWithin-alike c.args.limit (IsCarriedPair (g.G.Labelled.edge c.args.graph.now)
    (g.G.Labelled.own c.args.graph.now) g.G.Labelled.passed c.args.ordered.now.nodes.now)
    (IsFoundPair (g.G.Labelled.edge c.args.graph.now) (g.G.Labelled.own c.args.graph.now)
    g.G.Labelled.passed c.args.start.now) c.walked.ensures
    (λ values found. record {
      all = λ value.
          let same = carried (c.args.start.now, value) in (
            λ has. (same.0 ((found.all value).0 has)).1,
            λ is. (found.all value).1
                (same.1 ((c.args.start.now, [], Contains-head c.args.start.now [], refl), is)),
          );
      sorted = found.sorted;
    }) carried
