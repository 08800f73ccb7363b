use Rattle.rr_desk.proofs.Found.{found_fault, found_nearer, found_paragraph}
use Rattle.rr_desk.proofs.dump_reading.next_entry.Goals as goal

pub returns-in-Ok-None-clause-finds : goal.returns-in-Ok-None-clause-finds
returns-in-Ok-None-clause-finds g c = λ start given has.
    let next = rw c.in-Ok-None.field-0-is at (c.in-Ok-None.ensures.given start given has) in
    next.1

pub returns-in-Ok-Some-clause-finds : goal.returns-in-Ok-Some-clause-finds
returns-in-Ok-Some-clause-finds g c = λ start given has.
    found_paragraph _ _ _ _ _
    (rw c.in-Ok-Some.field-0-is at (c.in-Ok-Some.ensures.given start given has))

pub returns-in-Read-clause-finds : goal.returns-in-Read-clause-finds
returns-in-Read-clause-finds g c = λ start given has.
    let next = rw c.in-Read.is at (c.in-Err.ensures.given start given has) in
    next.1

pub returns-in-Endless-clause-finds : goal.returns-in-Endless-clause-finds
returns-in-Endless-clause-finds g c = λ start given has.
    let next = rw c.in-Endless.is at (c.in-Err.ensures.given start given has) in
    next.1

pub returns-in_default-clause-finds : goal.returns-in_default-clause-finds
returns-in_default-clause-finds g c = λ start given has.
    found_fault _ _ _ _ c.in-Err.fault c.in_default.not-Read c.in_default.not-Endless
    (c.in-Err.ensures.given start given has)

pub returns-in_default-clause-nearer : goal.returns-in_default-clause-nearer
returns-in_default-clause-nearer g c = found_nearer _ _ c.in-Err.fault c.in_default.not-Read
    c.in_default.not-Endless c.in-Err.ensures.nearer
