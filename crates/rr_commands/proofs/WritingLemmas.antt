-- Lemmas on writings one after the other.
use Rattle.std.proofs.Common.{ℕ, List, ◌++◌, Result, Ok, Err}
use Rattle.rr_io.specs.Told.{Told}
use Rattle.rr_io.specs.Sending.{Takes, Writes}
use Rattle.rr_io.proofs.Transfers.{Takes-then, TakesPrefix-then}

-- one writing, and then another, by how that one ends
pub Writes-then : {T E : Type 0} (start middle end : Told) (xs ys : List ℕ) (result : Result T E) →
    Takes start middle xs → Writes middle end ys result → Writes start end (xs ++ ys) result
Writes-then start middle end xs ys (Ok done) p q = Takes-then xs ys p q
Writes-then start middle end xs ys (Err cause) p q = TakesPrefix-then xs ys p q
