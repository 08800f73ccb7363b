use Rattle.std.proofs.Common.{◌≡◌, ◌-◌, ◌≤◌, List, ℕ, ◌++◌, length}
use Rattle.std.specs.Prelude.{vec_capacity}
use Rattle.rr_io.specs.Receiving.{Gives}
use Rattle.rr_http.proofs.body_reading.read_rest.Given as goal

-- what was read so far stands after the bytes of before, and the rest has room
abbrev pub invariant-reads : goal.invariant-reads
invariant-reads g l =
    (more : List ℕ) × Gives (g.R.Reader.told l.initial.reader) (g.R.Reader.told l.reader) more
    × (l.body.items ≡ l.initial.body.items ++ more)
    × (length l.body.items ≤ l.size)
    × (l.size ≤ vec_capacity l.body)

abbrev pub decreases-reads : goal.decreases-reads
decreases-reads g l = l.size - length l.body.items
