use Rattle.std.proofs.Common.{◌≡◌, ◌-◌, ◌≤◌, List, ℕ, ◌++◌, length, take}
use Rattle.rr_io.specs.Receiving.{Gives}
use Rattle.rr_http.specs.HeadParts.{goal_place}
use Rattle.rr_http.proofs.heads.read_on.Given as goal

-- what was read so far stands after the bytes of before, and has its goal there
abbrev pub invariant-reads : goal.invariant-reads
invariant-reads g l = record {
  more : List ℕ;
  gives : Gives (g.R.Reader.told l.initial.reader) (g.R.Reader.told l.reader) more;
  joined : take l.count l.buf ≡ take l.filled l.initial.buf ++ more;
  within : l.count ≤ length l.buf;
  is_place : l.place ≡ goal_place l.goal (take l.count l.buf);
}

abbrev pub decreases-reads : goal.decreases-reads
decreases-reads g l = length l.buf - l.count
