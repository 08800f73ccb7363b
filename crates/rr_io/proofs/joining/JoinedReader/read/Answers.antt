use Rattle.rr_io.proofs.Transfers.{ReadsOnce-beside}
use Rattle.rr_io.proofs.joining.JoinedReader.read.Goals as goal

-- what stands beside it has no part in it
pub returns : goal.returns
returns g c = ReadsOnce-beside c.read.result _ _ _ _ c.read.ensures
