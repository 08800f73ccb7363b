-- The order of keys, and the tests by which SQL tells them.
use Rattle.std.proofs.Common.{◌≡◌, ℕ, pos, Bool, true, false, ◌&&◌, List, refl, sym, ap, ◌∙◌}
use Rattle.std.proofs.Common.{Ordering, Less, Equal, Greater, nat_cmp, int_cmp, arith}
use Rattle.std.proofs.lemmas.Bool.Decides.{nat_tests}
use Rattle.std.specs.Ordering.{is_eq, ordering_then}
use Rattle.std.specs.Cmp.Lexicographic.{slice_cmp}
use Rattle.sqlite_value.specs.declared.value.Value.{Value}
use Rattle.sqlite_value.specs.declared.value.Value.TheVariants.{Int, Text}
use Rattle.sqlite_value.specs.declared.keys.Collation.TheVariants.{Binary}
use Rattle.sqlite_value.specs.Order.{value_cmp}
use Rattle.sqlite_value.proofs.OrderLemmas.{value_cmp-Int, value_cmp-Text}
use Rattle.sqlite_sql.specs.Ops.{binary, is_null, is_true}
use Rattle.sqlite_sql.specs.declared.ops.BinaryOp.TheVariants.{Compare}
use Rattle.sqlite_sql.specs.declared.ops.CompareOp.TheVariants.{Eq}
use Rattle.rr_object.specs.declared.key.Key.{Key}
use Rattle.rr_object.specs.KeyOrders.{HasKeyParts, class_and_bytes_cmp, key_cmp}
use Rattle.rr_object.proofs.DerivedOrder.{derived_order}
pub use Rattle.rr_object.proofs.KeyLaws.{keys_exact}
use Rattle.rr_object.proofs.KeysByBytes.{ordered_by_bytes}
use Rattle.rr_store.specs.Entries.{StoredEntry}
use Rattle.rr_store.proofs.EntryLemmas.{is_at}

pub ordered_as_bytes : (a b : Key) → HasKeyParts a → HasKeyParts b → key_cmp a b
    ≡ class_and_bytes_cmp a b
ordered_as_bytes a b fa fb = sym (derived_order a b) ∙ ordered_by_bytes a b fa fb

-- `=` of two values
abbrev pub is_same : Value → Value → Bool
is_same a b = is_true (binary (Compare Eq Binary) a b)

is_true_test : (b : Bool) → (a c : Value) → is_null a ≡ false → is_null c ≡ false →
    is_eq (value_cmp a c) ≡ b → is_true (binary (Compare Eq Binary) a c) ≡ b
unfolding binary
is_true_test true a c p q e = rw (p, q, e) refl
is_true_test false a c p q e = rw (p, q, e) refl

tie_as_numbers : (m n : ℕ) → is_eq (int_cmp (pos m) (pos n)) ≡ is_eq (nat_cmp m n)
tie_as_numbers m n = grind (arith, nat_tests)

numbers_tie : (m n : ℕ) → is_true (binary (Compare Eq Binary) (Int (pos m)) (Int (pos n)))
    ≡ is_eq (nat_cmp m n)
numbers_tie m n = is_true_test (is_eq (nat_cmp m n)) (Int (pos m)) (Int (pos n)) refl refl
    (ap is_eq (value_cmp-Int (pos m) (pos n)) ∙ tie_as_numbers m n)

pub texts_tie : (x y : List ℕ) → is_true (binary (Compare Eq Binary) (Text x) (Text y))
    ≡ is_eq (slice_cmp nat_cmp x y)
texts_tie x y = is_true_test (is_eq (slice_cmp nat_cmp x y)) (Text x) (Text y) refl refl
    (ap is_eq (value_cmp-Text x y))

both_tie : (a b : Ordering) → (is_eq a && (is_eq b && true)) ≡ is_eq (ordering_then a b)
both_tie Less b = refl
both_tie Equal Less = refl
both_tie Equal Equal = refl
both_tie Equal Greater = refl
both_tie Greater b = refl

-- SQL tells entries by the orders of their classes' numbers and their keys' texts
pub at_ties : (class : ℕ) (key : List ℕ) (entry : StoredEntry) → is_at class key entry
    ≡ is_eq (ordering_then (nat_cmp entry.class class) (slice_cmp nat_cmp entry.key key))
at_ties class key entry =
    (λ i. numbers_tie entry.class class i && (texts_tie entry.key key i && true)) ∙ both_tie
    (nat_cmp entry.class class) (slice_cmp nat_cmp entry.key key)
