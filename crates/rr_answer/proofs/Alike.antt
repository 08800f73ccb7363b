-- Registries that look alike have objects that are seen alike.
use Rattle.std.proofs.Common.{◌≡◌, T, true, false, cond, List, [], ◌∷◌, refl, sym, ap, subst, ◌∙◌}
use Rattle.std.specs.Prelude.{Option, None, Some, ◌&&◌, map}
use Rattle.std.specs.FinMap.{get, entries, entries_sorted, get-entries, values, is_sorted, find}
use Rattle.std.specs.FinMap.Entries.{below_all, same_entries}
use Rattle.std.specs.Option.{option_map}
use Rattle.std.specs.Ordering.{eq_by_cmp, is_lt}
use Rattle.rr_object.specs.declared.key.Key.{Key}
use Rattle.rr_object.specs.KeyOrders.{key_cmp}
use Rattle.rr_object.specs.Objects.{Obj}
use Rattle.rr_object.specs.Readings.{public_of}
use Rattle.rr_auth.specs.Registries.{Reg}
use Rattle.rr_object.proofs.KeyLaws.{keys_exact, keys_total}
use Rattle.rr_answer.specs.Secrecy.{IsRead, LookAlike}
use Rattle.rr_answer.proofs.Seen.{seen, seen_alike}

-- two registries are seen alike
pub record Alike (r s : Reg) : Type 0 where
  pub at : (k : Key) → option_map seen (get r k) ≡ option_map seen (get s k)

alike_at : (r s : Reg) (k : Key) (a b : Option Obj) → IsRead r → IsRead s → get r k ≡ a →
    get s k ≡ b
    → option_map public_of a ≡ option_map public_of b → option_map seen a ≡ option_map seen b
alike_at r s k None None p q e f same = refl
alike_at r s k None (Some y) p q e f same = cc
alike_at r s k (Some x) None p q e f same = cc
alike_at r s k (Some x) (Some y) p q e f same =
    let public : public_of x ≡ public_of y = cc in
    ap Some (seen_alike x y (p.read k x e) (q.read k y f) (p.keyed k x e ∙ sym (q.keyed k y f))
    public)

pub seen_alike_at : (r s : Reg) → IsRead r → IsRead s → LookAlike r s → Alike r s
seen_alike_at r s p q look = record {
  at = λ k. alike_at r s k (get r k) (get s k) p q refl refl
      (look k);
}

pub back : (r s : Reg) → Alike r s → Alike s r
back r s alike = record { at = λ k. sym (alike.at k) }

-- the entries as they are seen
shown_entry : Key × Obj → Key × Obj
shown_entry e = (e.0, seen e.1)

below_shown : (k : Key) (es : List (Key × Obj)) → below_all key_cmp k (map shown_entry es)
    ≡ below_all key_cmp k es
unfolding shown_entry
below_shown k [] = refl
below_shown k (e ∷ es) = ap (λ b. is_lt (key_cmp k e.0) && b) (below_shown k es)

sorted_shown : (es : List (Key × Obj)) → is_sorted key_cmp (map shown_entry es) ≡ is_sorted key_cmp
    es
unfolding shown_entry
sorted_shown [] = refl
sorted_shown (e ∷ es) = λ i. below_shown e.0 es i && sorted_shown es i

find_shown : (k : Key) (es : List (Key × Obj)) → find key_cmp k (map shown_entry es) ≡ option_map
    seen (find key_cmp k es)
unfolding shown_entry
find_shown k [] = refl
find_shown k (e ∷ es) =
    elim (eq_by_cmp key_cmp k e.0) as
    (λ b. cond b (Some (seen e.1)) (find key_cmp k (map shown_entry es)) ≡ option_map seen
    (cond b (Some e.1) (find key_cmp k es))) [
      | true ↦ refl
      | false ↦ find_shown k es
    ]

values_shown : (es : List (Key × Obj)) → map (λ e. e.1) (map shown_entry es) ≡ map seen
    (map (λ e. e.1) es)
unfolding shown_entry
values_shown [] = refl
values_shown (e ∷ es) = ap (λ os. seen e.1 ∷ os) (values_shown es)

same_shown : (r s : Reg) → Alike r s → map shown_entry (entries r) ≡ map shown_entry (entries s)
same_shown r s alike =
    same_entries key_cmp keys_total keys_exact (map shown_entry (entries r))
    (map shown_entry (entries s))
    (subst T (sym (sorted_shown (entries r))) (entries_sorted r))
    (subst T (sym (sorted_shown (entries s))) (entries_sorted s))
    (λ k. find_shown k (entries r) ∙ ap (option_map seen) (sym (get-entries r k)) ∙ alike.at k
    ∙ ap (option_map seen) (get-entries s k) ∙ sym (find_shown k (entries s)))

-- the objects of registries that look alike are seen alike, in the same order
pub same_values : (r s : Reg) → Alike r s → map seen (values r) ≡ map seen (values s)
same_values r s alike = sym (values_shown (entries r)) ∙ ap (map (λ e. e.1)) (same_shown r s alike)
    ∙ values_shown (entries s)

other_value : (a b : Option Obj) (o : Obj) → a ≡ Some o → option_map seen a ≡ option_map seen b →
    (x : Obj) × (b ≡ Some x) × (seen o ≡ seen x)
other_value None b o e same = cc
other_value (Some y) None o e same = cc
other_value (Some y) (Some x) o e same = (x, refl, cc)

-- what stands under a key of one registry is seen under it in the other
pub other_object : (r s : Reg) (k : Key) (o : Obj) → Alike r s → get r k ≡ Some o → (x : Obj)
    × (get s k ≡ Some x) × (seen o ≡ seen x)
other_object r s k o alike e = other_value (get r k) (get s k) o e (alike.at k)
