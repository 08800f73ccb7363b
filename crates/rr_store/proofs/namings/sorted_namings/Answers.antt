use Rattle.std.proofs.Common.{map, subst, IsPermutation}
use Rattle.std.proofs.lemmas.List.Sorted.{IsPermutation-map}
use Rattle.rr_store.specs.NamingParts.{naming_row}
use Rattle.rr_store.proofs.NamingLemmas.{sorted_rows}
use Rattle.rr_store.proofs.namings.sorted_namings.Goals as goal

pub returns-clause-same : goal.returns-clause-same
returns-clause-same c =
    subst (λ l. IsPermutation l (map naming_row c.sort.new.self.items)) c.in_ok-all.ensures
    (IsPermutation-map naming_row _ _ c.in_ok-sort.ensures.permutation)

pub returns-clause-sorted : goal.returns-clause-sorted
returns-clause-sorted c = sorted_rows c.sort.new.self.items c.in_ok-sort.ensures.sorted
