use Rattle.std.proofs.Common.{◌≡◌, ◌++◌, Bor, List, ℕ, map, take}
use Rattle.rr_sets.specs.MemberParts.{number_reference, set_reference}
use Rattle.rr_sets.proofs.references.plain_references.Given as goal

abbrev pub invariant-loop-name : goal.invariant-loop-name
invariant-loop-name l = l.references.items ≡ map number_reference l.fn.numbers.items
    ++ map set_reference (map (λ (n : Bor (List ℕ)). n.now) (take l.name-index l.names))
