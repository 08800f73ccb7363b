use Rattle.rr_sets.proofs.ReferenceOrder.{exact_references}
use Rattle.rr_sets.proofs.references.references_of.Goals as goal

pub returns : goal.returns
returns g c = record {
  all = λ edge.
      let kept = c.put_in_order.ensures.same exact_references edge in
      let listed = c.in_ok-references.ensures edge.to edge.label in
      (λ has. listed.0 (kept.0 has), λ refers. kept.1 (listed.1 refers));
  sorted = c.put_in_order.ensures.sorted;
}
