use Rattle.std.proofs.Common.{List, sym, subst, ◌∙◌}
use Rattle.std.proofs.lemmas.List.Filters.{dedup_is}
use Rattle.std.proofs.lemmas.List.Kept.{Contains-dedup, Contains-from_dedup}
use Rattle.std.proofs.lemmas.List.Kept.{IsStrictlySortedBy-dedup}
use Rattle.std.proofs.lemmas.List.Sorted.{Contains-permutation, IsPermutation-sym}
use Rattle.std.proofs.lemmas.Map.Views.{tells_apart}
use Rattle.std.specs.List.Sorted.{IsStrictlySortedBy}
use Rattle.rr_graph.proofs.order.put_in_order.Goals as goal

pub returns : goal.returns
returns g c =
    let is = dedup_is _ _ _ c.dedup.ensures.filtered in
    let moved = c.sort_unstable.ensures.permutation in record {
      sorted = subst (λ (l : List g.row.T.Denot). IsStrictlySortedBy g.T.Ord.cmp l) (sym is)
          (IsStrictlySortedBy-dedup g.met.T.Ord.total g.met.T.Ord.matches_eq _
          c.sort_unstable.ensures.sorted);
      same = λ exact x. (
        λ h. Contains-permutation _ _ x (IsPermutation-sym _ _ moved)
            (Contains-from_dedup _ _ x (rw is at h)),
        λ h.
            rw is
            (Contains-dedup g.met.T.Eq.laws
            (λ a b e. tells_apart exact a b (sym (g.met.T.Ord.matches_eq a b) ∙ e)) _ x
            (Contains-permutation _ _ x moved h)),
      );
    }
