use Rattle.std.proofs.Common.{false, refl}
use Rattle.rr_auth.proofs.Remembered.{none_tried}
use Rattle.rr_auth.proofs.tried.Trial.none.Goals as goal

pub returns : goal.returns
returns c = λ secrets lines. none_tried secrets lines (record { tried = 0; fits = false }) refl refl
