-- What the numbers of the rows say of the rows.
use Rattle.std.proofs.Common.{◌≡◌, Bool, List, [], ◌∷◌, length, map, refl, sym, ap, subst, ◌∙◌}
use Rattle.std.proofs.Common.{arith, IsPermutation}
use Rattle.std.specs.Prelude.{◌==◌}
use Rattle.std.proofs.lemmas.Bool.{both_ways, eqb-true}
use Rattle.std.proofs.lemmas.List.{length-map}
use Rattle.std.proofs.lemmas.List.Sorted.{IsPermutation-map, IsPermutation-sym, length_permutation}
use Rattle.sqlite_value.specs.Order.{Row}
use Rattle.sqlite_trees.proofs.ListLemmas.{map-map}
use Rattle.rr_store.specs.Contents.{columns, contents, number, numbered}
use Rattle.rr_store.specs.VacancyParts.{SaysEmpty}

pub none_of_length : {X : Type 0} (xs : List X) → length xs ≡ 0 → xs ≡ []
none_of_length [] h = refl
none_of_length (x ∷ xs) h = absurd (omega arith)

-- the list of the numbers is as long as that of the rows
pub as_many : (rows answer : List Row) → IsPermutation (map number rows) answer → length answer
    ≡ length rows
as_many rows answer same = length_permutation _ _ same ∙ length-map rows number

-- a table has no row where the list of the numbers has none
pub empty_as : (is : Bool) (rows answer : List Row) → IsPermutation (map number rows) answer →
    is ≡ (length answer == 0) → SaysEmpty rows is
empty_as is rows answer same told = record {
  empty = λ on. none_of_length rows (sym (as_many rows answer same) ∙ eqb-true (length answer) 0
      (sym told ∙ on));
  filled = λ off none.
      absurd
      (both_ways is off (told ∙ ap (λ n. n == 0) (as_many rows answer same ∙ ap length none)));
}

-- what rows with their numbers hold
pub contents_of : (held rows : List Row) → IsPermutation (map numbered held) rows →
    IsPermutation (contents held) (contents rows)
contents_of held rows same = subst (λ l. IsPermutation l (contents rows))
    (map-map columns numbered held) (IsPermutation-map columns (map numbered held) rows same)

-- and where that is a list, the rows of this list are there
pub listed : (held rows list : List Row) → IsPermutation (map numbered held) rows → contents rows
    ≡ list → IsPermutation list (contents held)
listed held rows list same is = subst (λ l. IsPermutation l (contents held)) is
    (IsPermutation-sym _ _ (contents_of held rows same))
