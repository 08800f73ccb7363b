use Rattle.std.proofs.Common.{◌≡◌, ℕ, List, take}
use Rattle.std.specs.BTreeSet.{contains}
use Rattle.std.specs.Cmp.Lexicographic.{slice_cmp}
use Rattle.std.specs.List.{list_any}
use Rattle.std.specs.Ordering.{nat_cmp}
use Rattle.rr_object.specs.Keys.{is_mntner_of}
use Rattle.rr_registry.proofs.load.names_of_mntners.Given as goal

-- the names of the first objects that are mntners
abbrev pub invariant-loop-object : goal.invariant-loop-object
invariant-loop-object l = (name : List ℕ) → contains (slice_cmp nat_cmp) l.mntners name ≡ list_any
    (λ o. is_mntner_of name o.key) (take l.object-index l.objects)
