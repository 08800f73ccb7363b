use Rattle.rr_io.proofs.Transfers.{WritesOnce-beside}
use Rattle.rr_io.proofs.joining.JoinedWriter.write.Goals as goal

-- what stands beside it has no part in it
pub returns : goal.returns
returns g c = WritesOnce-beside c.write.result _ _ _ _ c.write.ensures
