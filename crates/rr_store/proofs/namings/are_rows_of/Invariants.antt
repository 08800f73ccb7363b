use Rattle.std.proofs.Common.{◌≡◌, length, map}
use Rattle.rr_store.specs.NamingParts.{naming_row}
use Rattle.rr_store.proofs.namings.are_rows_of.Given as goal

abbrev pub invariant-loop-rest : goal.invariant-loop-rest
invariant-loop-rest l = (l.rest ≡ map naming_row l.left → l.rows ≡ map naming_row l.namings)
    × (l.rows ≡ map naming_row l.namings → l.rest ≡ map naming_row l.left)

abbrev pub decreases-loop-rest : goal.decreases-loop-rest
decreases-loop-rest l = length l.rest
