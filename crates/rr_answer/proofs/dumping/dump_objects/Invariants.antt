use Rattle.std.proofs.Common.{◌≡◌, ℕ, List, ◌++◌, drop}
use Rattle.std.specs.Prelude.{flat_map}
use Rattle.rr_io.specs.Sending.{Takes}
use Rattle.rr_answer.specs.Dumps.{dumped}
use Rattle.rr_answer.proofs.dumping.dump_objects.Given as goal

-- what was taken so far, and what is to come
abbrev pub invariant-objects : goal.invariant-objects
invariant-objects g l =
    (taken : List ℕ) × (flat_map (λ object. dumped l.full object.now) l.objects ≡ taken ++ flat_map
    (λ object. dumped l.full object.now) (drop l.object-index l.objects))
    × Takes (g.W.Writer.told l.initial.writer) (g.W.Writer.told l.writer) taken
