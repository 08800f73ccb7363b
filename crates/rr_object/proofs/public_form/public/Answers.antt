use Rattle.std.proofs.Common.{refl}
use Rattle.rr_bytes.specs.Trims.{trim_start, trim_end}
use Rattle.rr_object.proofs.public_form.public.Goals as goal

-- the line has no blanks round it, no LF and no refused byte
pub with_values-requires : goal.with_values-requires
unfolding trim_start trim_end
with_values-requires c = record { trimmed = refl; unbroken = refl; clean = refl }
