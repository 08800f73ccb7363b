-- What a counted reader or writer has inside, and its counts: for `Counted`.
use Rattle.std.specs.Prelude.{ℕ}
use Rattle.rr_io.specs.declared.counting.Counted.{Counted}

-- the reader or writer whose calls are counted
abbrev pub counted_inner : {T : Type 0} → Counted T → T
counted_inner c = c.inner

-- how many reads of a counted reader failed, up to 2^64 - 1 (profile)
abbrev pub counted_failed_reads : {T : Type 0} → Counted T → ℕ
counted_failed_reads c = c.failed_reads

-- how many writes of a counted writer failed, up to 2^64 - 1 (profile)
abbrev pub counted_failed_writes : {T : Type 0} → Counted T → ℕ
counted_failed_writes c = c.failed_writes

-- how many reads of a counted reader did not fail, up to 2^64 - 1 (profile)
abbrev pub counted_reads : {T : Type 0} → Counted T → ℕ
counted_reads c = c.reads
