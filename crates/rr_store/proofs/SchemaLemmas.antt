-- No other table refers to the three, so that a change of their rows sets off no other.
use Rattle.std.proofs.Common.{◌≡◌, ◌≢◌, ℕ, ◌<◌, ◌≤◌, true, false, ◌||◌, cond, List, [], ◌∷◌, refl}
use Rattle.std.proofs.Common.{Option, Some, None, IfSome, codes, find, nat_lt, arith, ne_eqb, Ok}
use Rattle.std.specs.List.{list_all, flat_map, filter_map}
use Rattle.std.specs.Option.{option_map, option_and_then}
use Rattle.std.proofs.lemmas.Bool.{and_parts, or_parts, not-true, ltb-true}
use Rattle.sqlite_value.specs.Order.{Row}
use Rattle.sqlite_trees.specs.Tree.{Trees}
use Rattle.sqlite_schema.specs.declared.schema.Keys.{Keys}
use Rattle.sqlite_schema.specs.declared.schema.Table.{Table}
use Rattle.sqlite_schema.specs.declared.schema.Reference.{Reference}
use Rattle.sqlite_schema.specs.Names.{same_name}
use Rattle.sqlite_schema.specs.Rules.{ParentKey, parent_key, key_in, key_places, declared_order}
use Rattle.sqlite_rules.specs.declared.action.Deed.{Deed}
use Rattle.sqlite_rules.specs.Edit.{Edit, taken_by, Applies}
use Rattle.sqlite_rules.specs.Action.{works, work_by, work_for, Writes}
use Rattle.sqlite.proofs.Callers.{one_step}
use Rattle.rr_store.specs.Tables.{Layout, laid, stands_apart, refers_elsewhere}

abbrev IsBeyond : Option ParentKey → Type 0
IsBeyond key = IfSome key (λ k. 4 < k.0)

no_work : (depth tree : ℕ) (moves : List (Row × Row)) (child : Table) (ref : Reference)
    (deed : Option Deed) (key : Option ParentKey) → IsBeyond key → tree ≤ 4
    → work_by depth tree moves child ref deed key ≡ None
no_work depth tree moves child ref None key beyond low = refl
no_work depth tree moves child ref (Some deed) None beyond low = refl
no_work depth tree moves child ref (Some deed) (Some key) beyond low = let apart : key.0 ≢ tree =
    λ same. absurd (omega arith) in rw (ne_eqb key.0 tree apart) refl

keyed_beyond : (t : Table) (places : Option (List ℕ)) → 4 < t.tree →
    IsBeyond (option_and_then (key_in t) places)
keyed_beyond t None far = tt
keyed_beyond t (Some places) far = go (declared_order t places)
  where
    go : (o : _) → IsBeyond (option_map (λ order. (t.tree, places, order)) o)
    go None = tt
    go (Some order) = far

found_beyond : (ref : Reference) (ts : List Table) → list_all stands_apart ts ≡ true
    → IsBeyond (option_and_then (λ t. option_and_then (key_in t) (key_places t ref.parent_columns))
    (find (λ t. same_name t.name ref.parent) ts))
found_beyond ref [] apart = tt
found_beyond ref (t ∷ ts) apart =
    let both = and_parts _ _ apart in
    let far : 4 < t.tree = ltb-true 4 t.tree (and_parts _ _ both.0).0 in
    elim (same_name t.name ref.parent) as
    (λ b.
    IsBeyond
    (option_and_then (λ u. option_and_then (key_in u) (key_places u ref.parent_columns))
    (cond b (Some t) (find (λ u. same_name u.name ref.parent) ts)))) [
      | true ↦ keyed_beyond t (key_places t ref.parent_columns) far
      | false ↦ found_beyond ref ts
          both.1
    ]

parent_beyond : (l : Layout) → list_all stands_apart l.others ≡ true → (ref : Reference) →
    refers_elsewhere ref ≡ true → IsBeyond (parent_key (laid l).tables ref)
parent_beyond l apart ref elsewhere =
    let a = same_name (codes "meta") ref.parent in
    let b = same_name (codes "object") ref.parent in
    let c = same_name (codes "named") ref.parent in
    let first : ((a || b) ≡ false) × (c ≡ false) = or_parts (a || b) c
    (not-true (a || b || c) elsewhere) in
    let second : (a ≡ false) × (b ≡ false) = or_parts a b first.0 in
    rw (second.0, second.1, first.1) (found_beyond ref l.others apart)

module _ (l : Layout) (apart : list_all stands_apart l.others ≡ true) (keys : Keys) (tree : ℕ)
    (low : tree ≤ 4) (olds news : List Row) where
  no_work_of : (child : Table) (refs : List Reference) → list_all refers_elsewhere refs ≡ true →
      filter_map (work_for (laid l) keys 0 tree olds news child) refs ≡ []
  no_work_of child [] elsewhere = refl
  no_work_of child (ref ∷ refs) elsewhere =
      let both = and_parts _ _ elsewhere in
      let none : work_for (laid l) keys 0 tree olds news child ref ≡ None = no_work 0 tree _ child
      ref _ _ (parent_beyond l apart ref both.0) low in
      rw none (no_work_of child refs both.1)

  no_work_in : (ts : List Table) → list_all stands_apart ts ≡ true →
      flat_map (λ child. filter_map (work_for (laid l) keys 0 tree olds news child)
      child.references) ts ≡ []
  no_work_in [] all = refl
  no_work_in (t ∷ ts) all =
      let both : (stands_apart t ≡ true) × (list_all stands_apart ts ≡ true) =
      and_parts (stands_apart t) (list_all stands_apart ts) all in
      let refs : list_all refers_elsewhere t.references ≡ true =
      (and_parts (nat_lt 4 t.tree) (list_all refers_elsewhere t.references) both.0).1 in
      rw (no_work_of t t.references refs) (no_work_in ts both.1)

  pub no_works : works (laid l) keys 0 tree olds news ≡ []
  no_works = no_work_in l.others apart

-- a write of rows of the three tables is its one step
pub one_step_of : (l : Layout) → list_all stands_apart l.others ≡ true →
    (keys : Keys) (db next : Trees) (edit : Edit) → edit.table.tree ≤ 4
    → Writes (laid l) keys db edit (Ok next) → Applies (laid l) keys db edit next
one_step_of l apart keys db next edit low = one_step (laid l) keys db next edit
    (no_works l apart keys edit.table.tree low (taken_by db edit) edit.news)
