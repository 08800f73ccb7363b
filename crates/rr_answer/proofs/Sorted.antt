-- Lists in order that have the same elements are equal.
use Rattle.std.proofs.Common.{◌≡◌, ◌↔◌, List}
use Rattle.std.specs.Prelude.{Contains}
use Rattle.std.specs.declared.cmp.Ordering.{Ordering}
use Rattle.std.specs.BTreeSet.{BTreeSet, contains}
use Rattle.std.specs.Cmp.{IsTotalOrder}
use Rattle.std.specs.List.Sorted.{IsStrictlySortedBy}
use Rattle.std.proofs.lemmas.Map.Lookups.{CmpEqualImpliesEq, btree_set_from_contains}
use Rattle.std.proofs.lemmas.Map.Views.{btree_set_contains_iff}
use Rattle.rr_auth.proofs.Members.{both_or_none}

with_keys : {K : Type 0} → List K → BTreeSet K
with_keys keys = record { keys = keys }

pub same_sorted : {K : Type 0} {R : K → K → Ordering} → IsTotalOrder R → CmpEqualImpliesEq R →
    (xs ys : List K)
    → IsStrictlySortedBy R xs → IsStrictlySortedBy R ys → ((k : K) → Contains xs k ↔ Contains ys k)
    → xs ≡ ys
unfolding with_keys
same_sorted {K} {R} total exact xs ys p q same =
    btree_set_from_contains total (with_keys xs) (with_keys ys) p q (λ k.
    let first = btree_set_contains_iff total exact (with_keys xs) k in
    let second = btree_set_contains_iff total exact (with_keys ys) k in
    both_or_none (contains R (with_keys xs) k) (contains R (with_keys ys) k)
    (λ has. second.1 ((same k).0 (first.0 has))) (λ has. first.1 ((same k).1 (second.0 has)))) exact
