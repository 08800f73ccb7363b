-- The order of namings is that of their rows, in which only equal rows tie.
use Rattle.std.proofs.Common.{◌≡◌, ℕ, ◌+◌, pos, Option, Some, None, IfSome, List, [], ◌∷◌, map}
use Rattle.std.proofs.Common.{get_or, refl, sym, ap, subst₂, ◌∙◌, arith, Equal, nat_cmp, int_cmp}
use Rattle.std.proofs.Common.{is_lt, IsPermutation, IsSorted}
use Rattle.std.specs.List.{AllByRecursion}
use Rattle.std.specs.Ordering.{ordering_then}
use Rattle.std.specs.Cmp.{IsTotalOrder}
use Rattle.std.specs.FinMap.{nat_cmp-IsAntisymmetric, int_cmp-IsAntisymmetric}
use Rattle.std.specs.FinMap.{slice_cmp-IsAntisymmetric}
use Rattle.std.proofs.lemmas.Bool.Decides.{nat_tests}
use Rattle.sqlite_value.specs.declared.value.Value.TheVariants.{Int, Text}
use Rattle.sqlite_value.specs.declared.keys.Collation.TheVariants.{Binary}
use Rattle.sqlite_value.specs.Keys.{ascending}
use Rattle.sqlite_value.specs.Order.{Row}
use Rattle.sqlite_value.proofs.OrderLemmas.{value_cmp-Int, value_cmp-Text, then-Equal}
use Rattle.sqlite_sql.proofs.QueryLemmas.{key_cmp_total}
use Rattle.sqlite_exec.proofs.RowsLemmas.{IsSorted-map}
use Rattle.rr_number.proofs.NumberOrders.{ties}
use Rattle.rr_store.specs.Contents.{by_three}
use Rattle.rr_store.specs.declared.namings.Naming.{Naming}
use Rattle.rr_store.specs.contracts.namings.NamingOrd.TheImpl as derived
use Rattle.rr_store.specs.NamingParts.{naming_row}
use Rattle.rr_store.proofs.SortedLemmas.{sorted_once}

by_three_total : IsTotalOrder by_three
by_three_total = key_cmp_total (ascending Binary ∷ ascending Binary ∷ ascending Binary ∷ []) 0

pub numbers_compare : (m n : ℕ) → int_cmp (pos m) (pos n) ≡ nat_cmp m n
numbers_compare m n = grind (arith, nat_tests)

-- namings are ordered as their rows
pub naming_order : (a b : Naming) → (derived.ghosts).cmp a b ≡ by_three (naming_row a)
    (naming_row b)
naming_order a b =
    sym (λ i. ordering_then (value_cmp-Text a.maintainer b.maintainer i)
    (ordering_then
    ((value_cmp-Int (pos a.class) (pos b.class) ∙ numbers_compare a.class b.class) i)
    ((ap (λ o. ordering_then o Equal) (value_cmp-Text a.key.items b.key.items) ∙ then-Equal _)
    i)))

pub sorted_rows : (namings : List Naming) → IsSorted (derived.ghosts).cmp namings →
    IsSorted by_three (map naming_row namings)
sorted_rows namings sorted = IsSorted-map by_three naming_row namings
    (λ k d low high. ap is_lt (sym (naming_order (get_or namings (k + 1) d) (get_or namings k d)))
    ∙ sorted k d low high)

abbrev IsNamingRow : Row → Type 0
IsNamingRow row = (naming : Naming) × (row ≡ naming_row naming)

told : (a b : Row) → IsNamingRow a → IsNamingRow b → by_three a b ≡ Equal → a ≡ b
told a b p q tie =
    let x = p.0 in
    let y = q.0 in
    let first = ties _ _ (subst₂ (λ r s. by_three r s ≡ Equal) p.1 q.1 tie) in
    let second = ties _ _ first.1 in
    let third = ties _ _ second.1 in
    let one : x.maintainer ≡ y.maintainer = slice_cmp-IsAntisymmetric nat_cmp-IsAntisymmetric _ _
    (sym (value_cmp-Text x.maintainer y.maintainer) ∙ first.0) in
    let two : pos x.class ≡ pos y.class = int_cmp-IsAntisymmetric _ _
    (sym (value_cmp-Int (pos x.class) (pos y.class)) ∙ second.0) in
    let three : x.key.items ≡ y.key.items = slice_cmp-IsAntisymmetric nat_cmp-IsAntisymmetric _ _
    (sym (value_cmp-Text x.key.items y.key.items) ∙ third.0) in
    p.1 ∙ (λ i. Text (one i) ∷ Int (two i) ∷ Text (three i) ∷ []) ∙ sym q.1

all_rows : (namings : List Naming) → AllByRecursion IsNamingRow (map naming_row namings)
all_rows [] = tt
all_rows (naming ∷ namings) = ((naming, refl), all_rows namings)

-- rows in order that are those of namings in another order are those of the namings in order
pub rows_in_order : (namings : List Naming) (rows : List Row) →
    IsPermutation (map naming_row namings) rows → IsSorted by_three (map naming_row namings) →
    IsSorted by_three rows → rows ≡ map naming_row namings
rows_in_order namings rows same one two =
    sym (sorted_once by_three by_three_total IsNamingRow told (map naming_row namings) rows
    (all_rows namings) same one two)

pub each_some : {X : Type 0} (r : Option X) (P Q : X → Type 0) → IfSome r P → ((x : X) → P x → Q x)
    → IfSome r Q
each_some (Some x) P Q h f = f x h
each_some None P Q h f = tt
