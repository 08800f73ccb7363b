use Rattle.std.proofs.Common.{◌≡◌, ◌++◌, drop, map}
use Rattle.rr_object.proofs.object_reading.as_slices.Given as goal

-- what was listed so far, and the values that are left
abbrev pub invariant-values : goal.invariant-values
invariant-values l = map (λ item. item.now) l.listed.items ++ drop l.value-index l.values ≡ l.values
