use Rattle.rr_submission.specs.Reports.{stop_lines}
use Rattle.rr_submission.proofs.Writings.{Writes-then}
use Rattle.rr_submission.proofs.handling.write_stop.Goals as goal

pub returns : goal.returns
unfolding stop_lines
returns g c =
    Writes-then _ _ _ _ c.in_ok-write_item_line.ensures c.write_last_line.ensures
