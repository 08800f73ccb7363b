-- Sums over the objects of a registry, as objects come and go.
use Rattle.std.proofs.Common.{◌≡◌, ◌+◌, ℕ, true, false, cond, T, List, [], ◌∷◌, arith, refl, sym}
use Rattle.std.proofs.Common.{ap, subst, ◌∙◌}
use Rattle.std.specs.Prelude.{None, Some}
use Rattle.std.specs.FinMap.{entries, entries-insert, entries_sorted, get, get-entries, get-insert}
use Rattle.std.specs.FinMap.{get-remove, insert, is_sorted, remove, same_map, values}
use Rattle.std.specs.FinMap.{find as find_entry}
use Rattle.std.specs.FinMap.Entries.{below_all, by_order, put}
use Rattle.std.specs.List.{sum_by}
use Rattle.std.specs.Map.{values_of}
use Rattle.std.specs.Option.{option_map_or}
use Rattle.std.specs.declared.cmp.Ordering.TheVariants.{Less, Equal, Greater}
use Rattle.std.specs.Ordering.{eq_by_cmp, is_eq, is_lt}
use Rattle.std.proofs.lemmas.List.Sums.{sum_by-append}
use Rattle.rr_object.proofs.KeyLaws.{keys_exact, keys_total, same_key, tied_key}
use Rattle.rr_auth.specs.Registries.{Reg}
use Rattle.rr_index.proofs.Gathered.{both, first_of, less, second_of}
use Rattle.rr_index.proofs.Listed.{missed}
use Rattle.rr_object.specs.declared.key.Key.{Key}
use Rattle.rr_object.specs.KeyOrders.{key_cmp}
use Rattle.rr_object.specs.Objects.{Obj}

-- the sum over a list is that of its first element and of the rest
pub sum_cons : {X : Type 0} (f : X → ℕ) (x : X) (xs : List X) → sum_by f (x ∷ xs) ≡ f x + sum_by f
    xs
sum_cons f x xs = omega (arith, sum_by-append f (x ∷ []) xs)

below_less : (k l : Key) (es : List (Key × Obj)) → key_cmp k l ≡ Less → T (below_all key_cmp l es)
    → T (below_all key_cmp k es)
below_less k l [] is h = tt
below_less k l (e ∷ es) is h =
    both _ _
    (subst (λ r. T (is_lt r))
    (sym
    (keys_total.trans k l e.0 is
    (less _ (first_of (is_lt (key_cmp l e.0)) (below_all key_cmp l es) h)))) tt)
    (below_less k l es is (second_of (is_lt (key_cmp l e.0)) (below_all key_cmp l es) h))

in_head : (new old w o : ℕ) → new ≡ o + old → w ≡ 0 → new + w ≡ old + o
in_head new old w o a b = omega arith

in_place : (new old s o x : ℕ) → new ≡ o + s → old ≡ x + s → new + x ≡ old + o
in_place new old s o x a b = omega arith

further_on : (new old p s w o x : ℕ) → new ≡ x + p → old ≡ x + s → p + w ≡ s + o → new + w ≡ old + o
further_on new old p s w o x a b c = omega arith

module _ (f : Obj → ℕ) where
  -- an entry that is put in adds its own, and takes away that of the entry in whose place it comes
  put_total : (k : Key) (o : Obj) (es : List (Key × Obj)) → T (is_sorted key_cmp es)
      → sum_by f (values_of (put key_cmp k o es)) + option_map_or f (find_entry key_cmp k es) 0
      ≡ sum_by f (values_of es) + f o
  put_total k o [] sorted = in_head (sum_by f (o ∷ [])) 0 0 (f o) (sum_cons f o []) refl
  put_total k o (e ∷ es) sorted =
      elim (key_cmp k e.0) as (λ r. key_cmp k e.0 ≡ r →
      sum_by f
      (values_of (by_order r ((k, o) ∷ (e ∷ es)) ((e.0, o) ∷ es) (e ∷ put key_cmp k o es)))
      + option_map_or f (cond (is_eq r) (Some e.1) (find_entry key_cmp k es)) 0 ≡ sum_by f
      (e.1 ∷ values_of es) + f o) [
        | Less ↦ λ is.
            in_head _ _ _ (f o) (sum_cons f o (e.1 ∷ values_of es))
            (ap (λ v. option_map_or f v 0)
            (missed k es
            (below_less k e.0 es is (first_of (below_all key_cmp e.0 es) (is_sorted key_cmp es)
            sorted))))
        | Equal ↦ λ is. in_place _ _ (sum_by f (values_of es)) (f o) (f e.1)
            (sum_cons f o (values_of es)) (sum_cons f e.1 (values_of es))
        | Greater ↦ λ is.
            further_on _ _ (sum_by f (values_of (put key_cmp k o es))) (sum_by f (values_of es)) _
            (f o) (f e.1)
            (sum_cons f e.1 (values_of (put key_cmp k o es))) (sum_cons f e.1 (values_of es))
            (put_total k o es (second_of (below_all key_cmp e.0 es) (is_sorted key_cmp es) sorted))
      ] refl

  pub insert_total : (r : Reg) (k : Key) (o : Obj) → sum_by f (values (insert r k o)) +
      option_map_or f (get r k) 0 ≡ sum_by f (values r) + f o
  insert_total r k o =
      (λ i. sum_by f (values_of (entries-insert keys_total r k o i)) + option_map_or f
      (get-entries r k i) 0)
      ∙ put_total k o (entries r) (entries_sorted r)

  put_back : (r : Reg) (k : Key) (x : Obj) → get r k ≡ Some x → insert (remove r k) k x ≡ r
  put_back r k x stood = same_map keys_total keys_exact _ _ (λ q.
      get-insert keys_total (remove r k) k x q
      ∙ ap (cond (eq_by_cmp key_cmp q k) (Some x)) (get-remove keys_total r k q)
      ∙ elim (eq_by_cmp key_cmp q k) as (λ b. eq_by_cmp key_cmp q k ≡ b →
      cond b (Some x) (cond b None (get r q)) ≡ get r q) [
        | true ↦ λ e. sym stood ∙ ap (λ l. get r l) (sym (same_key q k e))
        | false ↦ λ e. refl
      ] refl)

  one_less : (i w left x s : ℕ) → i + w ≡ left + x → i ≡ s → w ≡ 0 → left + x ≡ s
  one_less i w left x s a b c = omega arith

  pub remove_total : (r : Reg) (k : Key) (x : Obj) → get r k ≡ Some x →
      sum_by f (values (remove r k)) + f x ≡ sum_by f (values r)
  remove_total r k x stood =
      one_less _ _ _ _ _ (insert_total (remove r k) k x)
      (ap (λ m. sum_by f (values m)) (put_back r k x stood))
      (ap (λ v. option_map_or f v 0) (get-remove keys_total r k k ∙ ap (λ b. cond b None (get r k))
      (tied_key k)))
