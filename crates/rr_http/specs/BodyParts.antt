-- What private functions that read a body, or give it on as a reader, promise each other. No public
-- clause cites these.
use Rattle.std.specs.Prelude.{◌≡◌, ℕ, ◌<◌, List, [], ◌++◌, length, Some, replicate}
use Rattle.rr_io.specs.Told.{Beside, Told}
use Rattle.rr_io.specs.Receiving.{BreaksOff, Gives, IsSpent}
use Rattle.rr_http.specs.declared.body.Body.{Body}
use Rattle.rr_http.specs.declared.body_reading.BodyEnd.{BodyEnd}
use Rattle.rr_http.specs.declared.body_reading.BodyEnd.TheVariants.{Whole, Short, Broken}

-- the rest of a body of so many bytes was read after those that are there
abbrev pub ReadsRest : Told → Told → List ℕ → ℕ → List ℕ → BodyEnd → Type 0
ReadsRest old new before size after Whole =
    (more : List ℕ) × Gives old new more × (after ≡ before ++ more) × (length after ≡ size)
ReadsRest old new before size after Short =
    (more : List ℕ) × Gives old new more × IsSpent new × (after ≡ before ++ more)
    × (length after < size)
ReadsRest old new before size after Broken =
    (more : List ℕ) × BreaksOff old new more × (after ≡ before ++ more)
    × (length after < size)

-- the bytes of a body that are left to read
abbrev pub body_rest : Body → List ℕ
body_rest body = body.rest.now

-- how many bytes of a body never came
abbrev pub body_missing : Body → ℕ
body_missing body = body.missing

-- how many reads of a body failed
abbrev pub body_failed : Body → ℕ
body_failed body = body.failed

-- how many reads of a body did not fail
abbrev pub body_reads : Body → ℕ
body_reads body = body.reads

-- beside a body stands what no read changes: how many bytes never came, in place of a count of
-- faults
abbrev pub missing_beside : ℕ → Beside
missing_beside missing = record { bytes = Some []; faults = missing; reads = 0 }

-- what is told of a body: the bytes that are left, and as many zeros after them as never came,
-- which a body never gives
abbrev pub told_short : List ℕ → ℕ → ℕ → ℕ → Told
told_short rest missing failed reads = record {
  bytes = Some (rest ++ replicate missing 0);
  faults = failed;
  reads = reads;
  aside = missing_beside missing;
}

-- what a body tells of itself
abbrev pub body_told : Body → Told
body_told body =
    told_short (body_rest body) (body_missing body) (body_failed body) (body_reads body)
