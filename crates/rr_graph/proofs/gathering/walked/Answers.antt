use Rattle.std.proofs.Common.{rules, List, Contains, subst}
use Rattle.std.proofs.lemmas.Result.{err_from_is_err_and}
use Rattle.rr_graph.proofs.Finding.{FindsWithin-failed}
use Rattle.rr_graph.proofs.gathering.walked.Goals as goal

pub returns-in_err-pairs : goal.returns-in_err-pairs
returns-in_err-pairs g c =
    let p = err_from_is_err_and c.from_residual.result c.from_residual.ensures.1 in
    FindsWithin-failed p.0 c.from_residual.result c.in_err-pairs.ensures p.1 p.2 (λ many. many)

pub returns : goal.returns
returns g c = record {
  found = record {
    all = λ value. (
      λ has. (c.in_ok-pairs.ensures.found (c.args.start.now, value)).0
          (subst (λ (l : List (g.row.G-Node.Denot × g.row.G-Value.Denot)).
          Contains l (c.args.start.now, value)) c.deref.ensures.value
          ((c.in_ok-values.ensures.all value).0 has)),
      λ carried. (c.in_ok-values.ensures.all value).1
          (rw c.deref.ensures.value ((c.in_ok-pairs.ensures.found (c.args.start.now, value)).1
          carried)),
    );
    sorted = c.in_ok-values.ensures.sorted;
  };
  few = c.in_ok-pairs.ensures.few;
  many = search rules;
}
