-- What the end of serving a connection tells of its failed calls: for a law in `src/laws.rt`.
use Rattle.std.specs.Prelude.{◌≡◌, ◌+◌, ◌<◌, ◌≤◌, ◌^◌, Ok, Err}
use Rattle.rr_io.specs.Told.{Told}
use Rattle.rr_desk.specs.declared.peers.ConnFault.TheVariants.{Read, Write}
use Rattle.rr_desk.specs.Turns.{ConnEnd, Visit}
use Rattle.rr_http.specs.declared.registrar.Registrar.{Ghosts}
use Rattle.rr_http.specs.Serving.{Serves}

-- how serving a connection ended tells of its calls: well, that none failed (of writes ≤ says so,
-- since their count never falls); by a read, that a read failed; and by a write, that only writes
-- failed (profile)
abbrev pub TellsCalls : Told → Told → Told → Told → ConnEnd → Type 0
TellsCalls reader_old reader_new writer_old writer_new (Ok done) =
    (reader_new.faults ≡ reader_old.faults) × (writer_new.faults ≤ writer_old.faults)
TellsCalls reader_old reader_new writer_old writer_new (Err Read) =
    reader_old.faults < reader_new.faults
TellsCalls reader_old reader_new writer_old writer_new (Err Write) =
    (reader_new.faults ≡ reader_old.faults) × (writer_old.faults < writer_new.faults)

-- one more failed call can be counted
abbrev pub CanCount : Told → Type 0
CanCount told = told.faults + 1 < 2 ^ 64

-- where one more failed call can be counted on each side, as of each connection that a listener has
-- just accepted, how serving ended tells whether one failed
abbrev pub TellsFaults : Visit → Type 0
TellsFaults visit =
    CanCount visit.reader_before → CanCount visit.writer_before
    → TellsCalls visit.reader_before visit.reader_after visit.writer_before visit.writer_after
    visit.ended

-- how any connection of a registrar ends tells of its failed calls, where more can be counted
-- (`TellsFaults`)
abbrev pub EndsTellFailedCalls : {D : Type 0} → Ghosts D → Type 0
EndsTellFailedCalls {D} registrar =
    (before after : D) (visit : Visit) → Serves registrar before after visit → TellsFaults visit
