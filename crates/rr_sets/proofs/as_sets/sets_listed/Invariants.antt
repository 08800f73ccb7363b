use Rattle.std.proofs.Common.{◌≡◌, Bor, List, ℕ, map, take}
use Rattle.std.specs.List.{filter_map}
use Rattle.rr_sets.specs.SetObjects.{set_listed}
use Rattle.rr_sets.proofs.as_sets.sets_listed.Given as goal

abbrev pub invariant-loop-member : goal.invariant-loop-member
invariant-loop-member l = map (λ (n : Bor (List ℕ)). n.now) l.names.items
    ≡ filter_map set_listed (take l.member-index l.members)
