-- Numbers that rise are apart.
use Rattle.std.proofs.Common.{◌≡◌, ◌≢◌, ◌-◌, ◌≤◌, ℤ, drop, get_or, length-drop, true, List, [], ◌∷◌}
use Rattle.std.proofs.Common.{◌++◌, map, take, length, Option, None, Some, sym, ap, subst, ◌∙◌}
use Rattle.std.proofs.Common.{arith, IsPermutation}
use Rattle.std.specs.Prelude.{◌<ℤ◌, ◌≤ℤ◌}
use Rattle.std.specs.List.{AllByRecursion, list_all}
use Rattle.std.proofs.Math.Seq.{take-length}
use Rattle.std.proofs.lemmas.Int.{ints}
use Rattle.std.proofs.lemmas.List.Sorted.{IsPermutation-refl, IsPermutation-cons}
use Rattle.std.proofs.lemmas.List.Sorted.{IsPermutation-trans, IsPermutation-middle}
use Rattle.std.proofs.lemmas.List.Sorted.{IsPermutation-sym}
use Rattle.sqlite_value.specs.declared.value.Value.{Value}
use Rattle.sqlite_value.specs.declared.value.Value.TheVariants.{Int}
use Rattle.sqlite_value.specs.Order.{Row}
use Rattle.sqlite_trees.specs.Tree.{rowid, IsAscending}
use Rattle.sqlite_trees.specs.View.{is_int}
use Rattle.sqlite_trees.proofs.ListLemmas.{along_permutation, all-permutation, all_from_map}
use Rattle.sqlite_trees.proofs.ListLemmas.{ascending_from_map, ascending-append, all-append}
use Rattle.sqlite_schema.specs.declared.schema.Schema.{Schema}
use Rattle.sqlite_schema.specs.declared.schema.Table.{Table}
use Rattle.rr_store.specs.Tables.{HasTables, meta, object, named, rules_of, stands_apart}
use Rattle.rr_store.specs.Contents.{AreNumbered, IsPast, number, numbered}

abbrev Differ : Row → Row → Type 0
Differ a b = rowid a ≢ rowid b

abbrev StaysApart : List Row → List Row → Type 0
StaysApart xs ys = IsPermutation xs ys × (IsAscending Differ xs → IsAscending Differ ys)

-- rows with numbers of their own have them in any order
apart_permutes : (xs ys : List Row) → IsPermutation xs ys → StaysApart xs ys
apart_permutes = along_permutation StaysApart
    (λ xs. (IsPermutation-refl xs, λ up. up))
    (λ x xs ys h. (
      IsPermutation-cons x xs ys h.0,
      λ up.
          (all-permutation (Differ x) xs ys h.0 up.0, h.1 up.1),
    ))
    (λ x y xs. (
      IsPermutation-middle (x ∷ []) y xs,
      λ up.
          ((λ same. up.0.0 (sym same), up.1.0), (up.0.1, up.1.1)),
    ))
    (λ xs ys zs h k. (IsPermutation-trans xs ys zs h.0 k.0, λ up. k.1 (h.1 up)))

module _ (f : Row → Row) (rows answer : List Row) (same : IsPermutation (map f rows) answer)
    (keyed : AreNumbered answer) where
  back : IsPermutation answer (map f rows)
  back = IsPermutation-sym _ _ same

  apart_by : IsAscending (λ a b. Differ (f a) (f b)) rows
  apart_by = ascending_from_map Differ f rows ((apart_permutes answer (map f rows) back).1
      keyed.apart)

  numbered_by : AllByRecursion (λ r. is_int (rowid (f r)) ≡ true) rows
  numbered_by = all_from_map (λ r. is_int (rowid r) ≡ true) f rows
      (all-permutation _ answer (map f rows) back keyed.numbered)

-- rows have numbers of their own where the list of these has
pub keyed_by : (rows answer : List Row) → IsPermutation (map number rows) answer →
    AreNumbered answer → AreNumbered rows
keyed_by rows answer same keyed = record {
  apart = apart_by number rows answer same keyed;
  numbered = numbered_by number rows answer same keyed;
}

-- and where the list of the rows with their numbers has
pub keyed_with : (rows answer : List Row) → IsPermutation (map numbered rows) answer →
    AreNumbered answer → AreNumbered rows
keyed_with rows answer same keyed = record {
  apart = apart_by numbered rows answer same keyed;
  numbered = numbered_by numbered rows answer same keyed;
}

-- a number that is not above another
abbrev pub IsUpTo : ℤ → Value → Type 0
IsUpTo most v = (n : ℤ) × (v ≡ Int n) × (n ≤ℤ most)

-- rows whose numbers rise up to the last
abbrev pub IsRun : Option ℤ → List Row → Type 0
IsRun None rows = rows ≡ []
IsRun (Some last) rows = AreNumbered rows × AllByRecursion (λ r. IsUpTo last (rowid r)) rows

not_same : (a n : ℤ) → a <ℤ n → Int a ≢ Int n
not_same a n less same = let both : a ≡ n = cc in absurd (omega (arith, ints))

one_row : (row : Row) (n : ℤ) → rowid row ≡ Int n → IsRun (Some n) (row ∷ [])
one_row row n is = (
  record { apart = (tt, tt); numbered = (ap is_int is, tt) },
  ((n, is, omega (arith, ints)), tt),
)

pub run_more : (last : Option ℤ) (rows : List Row) (row : Row) (n : ℤ) → IsRun last rows →
    rowid row ≡ Int n → IsPast last n → IsRun (Some n) (rows ++ row ∷ [])
run_more None rows row n none is past = subst (λ xs. IsRun (Some n) (xs ++ row ∷ [])) (sym none)
    (one_row row n is)
run_more (Some last) rows row n run is past =
    let one = one_row row n is in (
      record {
        apart = ascending-append Differ rows (row ∷ []) run.0.apart one.0.apart (across rows run.1);
        numbered = all-append (λ r. is_int (rowid r) ≡ true) rows (row ∷ []) run.0.numbered
            one.0.numbered;
      },
      all-append (λ r. IsUpTo n (rowid r)) rows (row ∷ []) (weaker rows run.1) one.1,
    )
  where
    across : (xs : List Row) → AllByRecursion (λ r. IsUpTo last (rowid r)) xs →
        AllByRecursion (λ x. AllByRecursion (Differ x) (row ∷ [])) xs
    across [] h = tt
    across (x ∷ xs) h = (
      (λ same. not_same h.0.0 n (omega (arith, ints, h.0.2)) (sym h.0.1 ∙ same ∙ is), tt),
      across xs h.1,
    )

    weaker : (xs : List Row) → AllByRecursion (λ r. IsUpTo last (rowid r)) xs →
        AllByRecursion (λ r. IsUpTo n (rowid r)) xs
    weaker [] h = tt
    weaker (x ∷ xs) h = ((h.0.0, h.0.1, omega (arith, ints, h.0.2)), weaker xs h.1)

pub run_keyed : (last : Option ℤ) (rows : List Row) → IsRun last rows → AreNumbered rows
run_keyed None rows none = subst AreNumbered (sym none) (record { apart = tt; numbered = tt })
run_keyed (Some last) rows run = run.0

-- the three tables come first
pub has_them : (schema : Schema) (first second third : Table) (others : List Table) → schema.tables
    ≡ first ∷ second ∷ third ∷ others → first ≡ meta (rules_of first) →
    second ≡ object (rules_of second) → third ≡ named (rules_of third)
    → list_all stands_apart others ≡ true → HasTables schema
has_them schema first second third others all a b c apart = record {
  layout = record {
    meta = rules_of first;
    object = rules_of second;
    named = rules_of third;
    others = others;
    indexes = schema.indexes;
    views = schema.views;
  };
  is = λ i. record {
    tables = (all ∙ (λ j. a j ∷ b j ∷ c j ∷ others)) i;
    indexes = schema.indexes;
    views = schema.views;
  };
  apart = apart;
}

-- and where they do, they are these
pub told_first : (schema : Schema) (first second third : Table) (others : List Table) →
    schema.tables ≡ first ∷ second ∷ third ∷ others → HasTables schema
    → (first ≡ meta (rules_of first)) × (second ≡ object (rules_of second))
    × (third ≡ named (rules_of third)) × (list_all stands_apart others ≡ true)
told_first schema first second third others all has =
    let l = has.layout in
    let same : first ∷ second ∷ third ∷ others ≡ meta l.meta ∷ object l.object ∷ named l.named
    ∷ l.others = sym all ∙ ap (λ (s : Schema). s.tables) has.is in
    let a : first ≡ meta l.meta = cc in
    let b : second ≡ object l.object = cc in
    let c : third ≡ named l.named = cc in
    let rest : others ≡ l.others = cc in (
      a ∙ sym (ap (λ t. meta (rules_of t)) a),
      b ∙ sym (ap (λ t. object (rules_of t)) b),
      c ∙ sym (ap (λ t. named (rules_of t)) c),
      ap (list_all stands_apart) rest ∙ has.apart,
    )

pub at_least_three : (schema : Schema) → HasTables schema → 3 ≤ length schema.tables
at_least_three schema has = subst (λ (s : Schema). 3 ≤ length s.tables) (sym has.is) (omega arith)

-- a list is its first three items and the rest
pub first_three : {X : Type 0} (xs : List X) (a b c : X) → 3 ≤ length xs → a ≡ get_or xs 0 a →
    b ≡ get_or xs 1 b → c ≡ get_or xs 2 c → xs ≡ a ∷ b ∷ c ∷ drop 3 xs
first_three [] a b c long p q r = absurd (omega arith)
first_three (x ∷ []) a b c long p q r = absurd (omega arith)
first_three (x ∷ y ∷ []) a b c long p q r = absurd (omega arith)
first_three (x ∷ y ∷ z ∷ xs) a b c long p q r = λ i. sym p i ∷ sym q i ∷ sym r i ∷ xs

pub rest_is : {X : Type 0} (xs : List X) → take (length xs - 3) (drop 3 xs) ≡ drop 3 xs
rest_is xs = ap (λ n. take n (drop 3 xs)) (sym (length-drop 3 xs)) ∙ take-length (drop 3 xs)
