use Rattle.std.proofs.Common.{List, Contains, subst}
use Rattle.std.proofs.lemmas.Map.Views.{btree_set_contains_from_list, btree_set_contains_iff}
use Rattle.rr_graph.proofs.Finding.{IfOk-both}
use Rattle.rr_sets.proofs.as_sets.sorted.Goals as goal

pub returns : goal.returns
returns g c =
    IfOk-both c.ascending.result _ _ _
    (λ list is sorted. record {
      sorted = sorted;
      same = λ exact x.
          let keys = btree_set_contains_iff g.met.T.Ord.total exact c.in_ok-distinct.field-0 x in
          let from = btree_set_contains_from_list g.met.T.Ord.total exact c.args.list.items
          c.in_ok-distinct.field-0 c.in_ok-distinct.ensures x in (
            λ has. from.0 (keys.1 (subst (λ (l : List g.row.T.Denot). Contains l x) is has)),
            λ has. rw is (keys.0 (from.1 has)),
          );
    })
    c.ascending.ensures.same c.ascending.ensures.sorted
