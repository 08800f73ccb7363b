-- Texts written one after the other.
use Rattle.std.proofs.Common.{ℕ, List, ◌++◌, Ok, Err}
use Rattle.std.specs.Prelude.{Result}
use Rattle.rr_io.specs.Told.{Told}
use Rattle.rr_io.specs.Sending.{Takes, Writes}
use Rattle.rr_io.proofs.Transfers.{Takes-then, TakesPrefix-then}

-- a writing after one that went well
pub Writes-then : {T E : Type 0} {start middle : Told} (end : Told) (xs ys : List ℕ)
    (result : Result T E) →
    Takes start middle xs → Writes middle end ys result → Writes start end (xs ++ ys) result
Writes-then end xs ys (Ok x) p q = Takes-then xs ys p q
Writes-then end xs ys (Err e) p q = TakesPrefix-then xs ys p q
