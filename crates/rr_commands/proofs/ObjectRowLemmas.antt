-- Lemmas on rows of objects that are counted.
use Rattle.std.proofs.Common.{ℕ, zero, suc, inl, inr, List, [], ◌∷◌, ◌++◌}
use Rattle.sqlite_value.specs.Order.{Row}
use Rattle.rr_commands.specs.ObjectRows.{AreOfOther, IsOfOtherSource}

-- so many of these rows are as many of these and one more
pub of_more : (source : List ℕ) (count : ℕ) (rows : List Row) (row : Row)
    → AreOfOther source count rows → AreOfOther source count (rows ++ row ∷ [])
of_more source zero rows row h = tt
of_more source (suc count) [] row h = absurd h
of_more source (suc count) (first ∷ rows) row (inl h) =
    inl (h.0, of_more source count rows row h.1)
of_more source (suc count) (first ∷ rows) row (inr h) = inr (of_more source (suc count) rows row h)

-- and one more of them if that is of another source
pub of_next : (source : List ℕ) (count : ℕ) (rows : List Row) (row : Row) → IsOfOtherSource source
    row
    → AreOfOther source count rows → AreOfOther source (suc count) (rows ++ row ∷ [])
of_next source zero [] row is h = inl (is, tt)
of_next source zero (first ∷ rows) row is h = inr (of_next source zero rows row is tt)
of_next source (suc count) [] row is h = absurd h
of_next source (suc count) (first ∷ rows) row is (inl h) =
    inl (h.0, of_next source count rows row is h.1)
of_next source (suc count) (first ∷ rows) row is (inr h) =
    inr (of_next source (suc count) rows row is h)
