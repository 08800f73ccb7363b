-- Objects that hide nothing.
use Rattle.std.proofs.Common.{◌≡◌, false, sym}
use Rattle.std.specs.List.{list_any}
use Rattle.std.specs.Prelude.{codes}
use Rattle.rr_text.specs.Fields.{has_name}
use Rattle.rr_text.proofs.KeptLemmas.{none_valued}
use Rattle.rr_object.specs.Objects.{Obj}
use Rattle.rr_object.specs.Readings.{public_of}

-- an object without `auth` is answered as it is
pub nothing_hidden : (o : Obj) → list_any (has_name (codes "auth")) o.paragraph ≡ false →
    o.paragraph ≡ public_of o
unfolding public_of
nothing_hidden o none = sym (none_valued _ _ o.paragraph none)
