-- What comes back with a refused insertion: for `InsertFault`.
use Rattle.rr_cover.specs.declared.insert_fault.InsertFault.{InsertFault}
use Rattle.rr_cover.specs.declared.insert_fault.InsertFault.TheVariants.{Overlap, Memory}

-- The value that a fault brings back: the one that was to be inserted.
abbrev pub value_of : {T : Type 0} → InsertFault T → T
value_of (Overlap value) = value
value_of (Memory value) = value
