use Rattle.std.proofs.Common.{◌≤◌, length, arith}
use Rattle.rr_io.proofs.Transfers.{Gives-then}
use Rattle.rr_http.proofs.HeadLemmas.{put_more}
use Rattle.rr_http.proofs.heads.read_on.Goals as goal

-- what was read so far, and what this read gave
pub reads-preserved : goal.reads-preserved
reads-preserved g c =
    let before = c.reads.invariant in
    let bound : c.in_ok-more.more ≤ length c.read.new.buf = c.in_ok-more.ensures.bound in record {
      more = _;
      gives = Gives-then _ _ before.gives c.in_ok-more.ensures.gives;
      joined = put_more _ _ _ _ _ _ _ before.joined before.within bound;
      within = omega arith;
      is_place = c.place_after-place-in-reads.ensures;
    }
