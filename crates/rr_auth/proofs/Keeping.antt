-- What is sound stays sound: additions, changes and deletions that are not refused.
use Rattle.std.proofs.Common.{◌≡◌, ℕ, Bool, true, false, cond, not, ◌&&◌, inl, inr, List, [], ◌∷◌}
use Rattle.std.proofs.Common.{refl, sym, ap, subst, ◌∙◌}
use Rattle.std.specs.Prelude.{None, Some, is_none, if◌then◌else◌}
use Rattle.std.specs.List.{list_any}
use Rattle.std.specs.Str.{bytes_eq}
use Rattle.std.specs.Ordering.{eq_by_cmp}
use Rattle.std.specs.Cmp.Lexicographic.{texts_ties}
use Rattle.std.specs.FinMap.{get, insert, remove, values, get-insert, get-remove}
use Rattle.std.proofs.lemmas.Bool.{or_parts, false_from_ne_true, true≢false}
use Rattle.rr_text.specs.Fields.{fields_eq}
use Rattle.rr_object.specs.declared.key.Key.{Key}
use Rattle.rr_object.specs.declared.key.Key.TheVariants.{Mntner, AsBlock, AutNum, Inetnum, Route}
use Rattle.rr_object.specs.declared.key.Key.TheVariants.{AsSet, RouteSet}
use Rattle.rr_object.specs.Objects.{Obj, names_of}
use Rattle.rr_object.specs.KeyOrders.{IsKeyValue, key_cmp}
use Rattle.rr_object.specs.Keys.{is_mntner_of}
use Rattle.rr_auth.specs.Registries.{Reg, Sound, maintainer, is_other_naming, some_is_unknown}
use Rattle.rr_auth.specs.Registries.{keys_cross, seen_by, with_mntner}
use Rattle.rr_object.specs.declared.code.Code.{Code}
use Rattle.rr_object.specs.declared.code.Code.TheVariants.{E10, E11, E12, E13, E14, E15, E16, E17}
use Rattle.rr_object.specs.declared.code.Code.TheVariants.{E18}
use Rattle.rr_auth.specs.declared.item.Item.TheVariants.{Submit, Delete as DeleteItem}
use Rattle.rr_auth.specs.declared.verdict.Verdict.{Verdict}
use Rattle.rr_auth.specs.declared.verdict.Verdict.TheVariants.{Add, Change, Unchanged, Delete}
use Rattle.rr_auth.specs.declared.verdict.Verdict.TheVariants.{Refuse}
use Rattle.rr_auth.specs.Passing.{names_pass}
use Rattle.rr_auth.specs.Conditions.{names_unknown, unauthorised, lacks_origin, origin_refuses}
use Rattle.rr_auth.specs.Conditions.{is_uncovered, cover_refuses, crosses_registered, is_in_use}
use Rattle.rr_auth.specs.Verdicts.{verdict, submission, addition, change, deletion, by_place}
use Rattle.rr_auth.proofs.Crossing.{keys_cross_back, crosses_itself}
use Rattle.rr_object.proofs.KeyLaws.{keys_total, same_key}
use Rattle.rr_auth.specs.Elements.{IsIn}
use Rattle.rr_auth.proofs.Members.{found_in, none_passes}

-- what stands in a registry after an addition: the new object under its key, and what stood
-- elsewhere
pub after_insert : (P : Key → Obj → Type 0) (r : Reg) (k : Key) (o : Obj) → P k o →
    ((l : Key) (x : Obj) → get r l ≡ Some x → P l x)
    → (l : Key) (x : Obj) → get (insert r k o) l ≡ Some x → P l x
after_insert P r k o new old l x f =
    elim (eq_by_cmp key_cmp l k) as (λ b. eq_by_cmp key_cmp l k ≡ b → cond b (Some o) (get r l)
    ≡ Some x → P l x) [
      | true ↦ λ t g.
          let here : k ≡ l = sym (same_key l k t) in
          let this : o ≡ x = cc in
          subst (λ m. P m x) here (subst (λ y. P k y) this new)
      | false ↦ λ t g. old l x g
    ] refl (sym (get-insert keys_total r k o l) ∙ f)

-- a maintainer that is registered stays so after an addition
kept_name : (r : Reg) (k : Key) (o : Obj) (n : List ℕ) → is_none (maintainer r n) ≡ false →
    is_none (maintainer (insert r k o) n) ≡ false
kept_name r k o n e =
    ap is_none (get-insert keys_total r k o (Mntner n))
    ∙ elim (eq_by_cmp key_cmp (Mntner n) k) as (λ b. is_none (cond b (Some o) (get r (Mntner n)))
    ≡ false) [ true ↦ refl | false ↦ e ]

pub kept_names : (r : Reg) (k : Key) (o : Obj) (ns : List (List ℕ)) → some_is_unknown r ns
    ≡ false → some_is_unknown (insert r k o) ns ≡ false
kept_names r k o [] e = refl
kept_names r k o (n ∷ ns) e =
    let parts = or_parts (is_none (maintainer r n)) (some_is_unknown r ns) e in
    let first = kept_name r k o n parts.0 in
    let rest = kept_names r k o ns parts.1 in
    rw (first, rest)

-- an object that names nobody unknown in the registry that it sees names nobody unknown once it is
-- in
seen_names : (r : Reg) (k : Key) (o : Obj) (ns : List (List ℕ)) →
    some_is_unknown (with_mntner r k o) ns ≡ false → some_is_unknown (insert r k o) ns ≡ false
seen_names r (Mntner n) o ns e = e
seen_names r (AsBlock s) o ns e = kept_names r _ o ns e
seen_names r (AutNum n) o ns e = kept_names r _ o ns e
seen_names r (Inetnum s) o ns e = kept_names r _ o ns e
seen_names r (Route p n) o ns e = kept_names r _ o ns e
seen_names r (AsSet n) o ns e = kept_names r _ o ns e
seen_names r (RouteSet n) o ns e = kept_names r _ o ns e

-- an object whose key crosses none, put under it, leaves a sound registry sound
pub sound_insert : (r : Reg) (o : Obj) → Sound r → IsKeyValue o.key
    → some_is_unknown (insert r o.key o) (names_of o) ≡ false
    → ((l : Key) (x : Obj) → get r l ≡ Some x → keys_cross l o.key ≡ false)
    → Sound (insert r o.key o)
sound_insert r o s formed named apart = record {
  keyed = after_insert (λ l x. x.key ≡ l) r o.key o refl s.keyed;
  formed = after_insert (λ l x. IsKeyValue l) r o.key o formed s.formed;
  named = after_insert (λ l x. some_is_unknown (insert r o.key o) (names_of x) ≡ false) r o.key o
      named
      (λ l x f. kept_names r o.key o (names_of x) (s.named l x f));
  apart = λ k l x y f g.
      after_insert (λ a u. keys_cross a l ≡ false) r o.key o
      (after_insert (λ b v. keys_cross o.key b ≡ false) r o.key o (crosses_itself o.key)
      (λ b v h. keys_cross_back o.key b ∙ apart b v h) l y g)
      (λ a u h. after_insert (λ b v. keys_cross a b ≡ false) r o.key o (apart a u h)
      (λ b v i. s.apart a b u v h i) l y g)
      k x f;
}

-- what the conditions of an addition say
apart_from : (r : Reg) (k : Key) → Sound r → crosses_registered r k ≡ false → (l : Key) (x : Obj) →
    get r l ≡ Some x → keys_cross l k ≡ false
apart_from r k s e l x f =
    ap (λ m. keys_cross m k) (sym (s.keyed l x f)) ∙ none_passes (λ o. keys_cross o.key k) x
    (values r) e (found_in r l x f)

-- where the verdict is not the code of the first condition, this does not hold and the rest decides
not_first : (b : Bool) (c : Code) (v w : Verdict) → (if b then Refuse c else v) ≡ w →
    (w ≡ Refuse c → ⊥) → (b ≡ false) × (v ≡ w)
not_first true c v w e n = absurd (n (sym e))
not_first false c v w e n = (refl, e)

add_differs : (c : Code) → Add ≡ Refuse c → ⊥
add_differs c e = cc

change_differs : (c : Code) → Change ≡ Refuse c → ⊥
change_differs c e = cc

delete_differs : (c : Code) → Delete ≡ Refuse c → ⊥
delete_differs c e = cc

kept_or_changed : (b : Bool) → (if b then Unchanged else Change) ≡ Add → ⊥
kept_or_changed true e = cc
kept_or_changed false e = cc

-- a change is never an addition, and an addition never a change
change_is_no_add : (r : Reg) (secrets : List (List ℕ)) (stored o : Obj) → change r secrets stored o
    ≡ Add → ⊥
change_is_no_add r secrets stored o e =
    let ten = not_first (some_is_unknown r (names_of o)) E10 _ _ e (add_differs E10) in
    let eleven = not_first (not (names_pass r secrets stored.maintainers)) E11 _ _ ten.1
    (add_differs E11) in
    kept_or_changed (fields_eq stored.paragraph o.paragraph) eleven.1

add_is_no_change : Add ≡ Change → ⊥
add_is_no_change e = cc

first_five : (r : Reg) (secrets : List (List ℕ)) (k : Key) → by_place r secrets k ≡ Change → ⊥
first_five r secrets k e =
    let a = not_first (crosses_registered r k) E16 _ _ e (change_differs E16) in
    let b = not_first (lacks_origin r k) E14 _ _ a.1 (change_differs E14) in
    let c = not_first (origin_refuses r secrets k) E15 _ _ b.1 (change_differs E15) in
    let d = not_first (is_uncovered r k) E12 _ _ c.1 (change_differs E12) in
    let f = not_first (cover_refuses r secrets k) E13 _ _ d.1 (change_differs E13) in
    add_is_no_change f.1

addition_is_no_change : (r : Reg) (secrets : List (List ℕ)) (o : Obj) → addition r secrets o
    ≡ Change → ⊥
addition_is_no_change r secrets o e =
    let ten = not_first (names_unknown (seen_by (Some o) r) o) E10 _ _ e (change_differs E10) in
    let eleven = not_first (unauthorised (seen_by (Some o) r) secrets o) E11 _ _ ten.1
    (change_differs E11) in
    first_five r secrets o.key eleven.1

-- an addition that is not refused leaves a sound registry sound
pub sound_added : (r : Reg) (secrets : List (List ℕ)) (o : Obj) → Sound r → IsKeyValue o.key →
    verdict r secrets (Submit o) ≡ Add → Sound (insert r o.key o)
sound_added r secrets o s formed e =
    elim (get r o.key) as (λ stored. submission stored r secrets o ≡ Add →
    Sound (insert r o.key o)) [
      | None ↦ λ f.
          let ten = not_first (names_unknown (seen_by (Some o) r) o) E10 _ _ f (add_differs E10) in
          let eleven = not_first (unauthorised (seen_by (Some o) r) secrets o) E11 _ _ ten.1
          (add_differs E11) in
          let sixteen = not_first (crosses_registered r o.key) E16 _ _ eleven.1 (add_differs E16) in
          sound_insert r o s formed (seen_names r o.key o (names_of o) ten.0)
          (apart_from r o.key s sixteen.0)
      | Some stored ↦ λ f. absurd (change_is_no_add r secrets stored o f)
    ] e

-- a change that is not refused leaves a sound registry sound
pub sound_changed : (r : Reg) (secrets : List (List ℕ)) (o : Obj) → Sound r → IsKeyValue o.key →
    verdict r secrets (Submit o) ≡ Change → Sound (insert r o.key o)
sound_changed r secrets o s formed e =
    elim (get r o.key) as (λ stored. get r o.key ≡ stored → submission stored r secrets o
    ≡ Change → Sound (insert r o.key o)) [
      | None ↦ λ g f. absurd (addition_is_no_change r secrets o f)
      | Some stored ↦ λ g f.
          let ten = not_first (some_is_unknown r (names_of o)) E10 _ _ f (change_differs E10) in
          sound_insert r o s formed (kept_names r o.key o (names_of o) ten.0)
          (λ l x h. s.apart l o.key x stored h g)
    ] refl e

-- what stands in a registry after a deletion stood there before, under another key
pub still_there : (r : Reg) (k l : Key) (x : Obj) → get (remove r k) l ≡ Some x →
    (eq_by_cmp key_cmp l k ≡ false) × (get r l ≡ Some x)
still_there r k l x f =
    elim (eq_by_cmp key_cmp l k) as (λ b. cond b None (get r l) ≡ Some x → (b ≡ false)
    × (get r l ≡ Some x)) [
      | true ↦ λ g. cc
      | false ↦ λ g. (refl, g)
    ] (sym (get-remove keys_total r k l) ∙ f)

-- a key that a deletion does not name, and of which no name tells, keeps the maintainers that are
-- named
kept_by_others : (r : Reg) (k : Key) (n : List ℕ) → eq_by_cmp key_cmp (Mntner n) k ≡ false →
    is_none (maintainer r n) ≡ false
    → is_none (maintainer (remove r k) n) ≡ false
kept_by_others r k n other e =
    ap is_none (get-remove keys_total r k (Mntner n))
    ∙ ap (λ b. is_none (cond b None (get r (Mntner n)))) other ∙ e

-- names that another object than the mntner names stay registered where the mntner is deleted
not_another : (n m : List ℕ) (o : Obj) → is_mntner_of m o.key ≡ false → is_other_naming m o
    ≡ false →
    IsIn n (names_of o) → bytes_eq n m ≡ false
not_another n m o k e i =
    none_passes (λ a. bytes_eq a m) n (names_of o)
    (ap (λ b. not b && list_any (λ a. bytes_eq a m) (names_of o)) (sym k) ∙ e) i

tied_names : (n m : List ℕ) → eq_by_cmp key_cmp (Mntner n) (Mntner m) ≡ bytes_eq n m
tied_names n m = sym (texts_ties n m)

mntner_of_key : (m : List ℕ) (k : Key) → is_mntner_of m k ≡ true → eq_by_cmp key_cmp k (Mntner m)
    ≡ true
mntner_of_key m (Mntner n) e = tied_names n m ∙ e
mntner_of_key m (AsBlock s) e = cc
mntner_of_key m (AutNum n) e = cc
mntner_of_key m (Inetnum s) e = cc
mntner_of_key m (Route p n) e = cc
mntner_of_key m (AsSet n) e = cc
mntner_of_key m (RouteSet n) e = cc

other_key : (m : List ℕ) (k : Key) → eq_by_cmp key_cmp k (Mntner m) ≡ false → is_mntner_of m k
    ≡ false
other_key m k e = false_from_ne_true _ (λ t. true≢false (sym (mntner_of_key m k t) ∙ e))

-- whether the key of a name's mntner is the one deleted, where nobody names that
unnamed_key : (r : Reg) (k l : Key) (x : Obj) (n : List ℕ) → Sound r → is_in_use r k ≡ false →
    get r l ≡ Some x
    → eq_by_cmp key_cmp l k ≡ false → IsIn n (names_of x) → eq_by_cmp key_cmp (Mntner n) k ≡ false
unnamed_key r (Mntner m) l x n s e f other i =
    let outside = other_key m x.key (ap (λ a. eq_by_cmp key_cmp a (Mntner m)) (s.keyed l x f)
    ∙ other) in
    let unnamed = none_passes (is_other_naming m) x (values r) e (found_in r l x f) in
    tied_names n m ∙ not_another n m x outside unnamed i
unnamed_key r (AsBlock t) l x n s e f other i = refl
unnamed_key r (AutNum m) l x n s e f other i = refl
unnamed_key r (Inetnum t) l x n s e f other i = refl
unnamed_key r (Route p m) l x n s e f other i = refl
unnamed_key r (AsSet m) l x n s e f other i = refl
unnamed_key r (RouteSet m) l x n s e f other i = refl

all_kept : (r : Reg) (k : Key) (ns : List (List ℕ)) →
    ((n : List ℕ) → IsIn n ns → eq_by_cmp key_cmp (Mntner n) k ≡ false)
    → some_is_unknown r ns ≡ false → some_is_unknown (remove r k) ns ≡ false
all_kept r k [] h e = refl
all_kept r k (n ∷ ns) h e =
    let parts = or_parts (is_none (maintainer r n)) (some_is_unknown r ns) e in
    let first = kept_by_others r k n (h n (inl refl)) parts.0 in
    let rest = all_kept r k ns (λ m i. h m (inr i)) parts.1 in
    rw (first, rest)

-- a deletion of what nobody names leaves a sound registry sound
sound_without : (r : Reg) (k : Key) → Sound r → is_in_use r k ≡ false → Sound (remove r k)
sound_without r k s e = record {
  keyed = λ l x f. s.keyed l x (still_there r k l x f).1;
  formed = λ l x f. s.formed l x (still_there r k l x f).1;
  named = λ l x f.
      let there = still_there r k l x f in
      all_kept r k (names_of x) (λ n i. unnamed_key r k l x n s e there.1 there.0 i)
      (s.named l x there.1);
  apart = λ l m x y f g. s.apart l m x y (still_there r k l x f).1 (still_there r k m y g).1;
}

-- a deletion that is not refused leaves a sound registry sound
pub sound_removed : (r : Reg) (secrets : List (List ℕ)) (k : Key) → Sound r →
    verdict r secrets (DeleteItem k) ≡ Delete → Sound (remove r k)
sound_removed r secrets k s e =
    elim (get r k) as (λ stored. deletion stored r secrets k ≡ Delete → Sound (remove r k)) [
      | None ↦ λ f. absurd (delete_differs E18 (sym f))
      | Some stored ↦ λ f.
          let eleven = not_first (not (names_pass r secrets stored.maintainers)) E11 _ _ f
          (delete_differs E11) in
          let seventeen = not_first (is_in_use r k) E17 _ _ eleven.1 (delete_differs E17) in
          sound_without r k s seventeen.0
    ] e
