use Rattle.std.proofs.Common.{◌≡◌, ◌∷◌, ◌++◌, drop}
use Rattle.std.specs.Prelude.{map}
use Rattle.std.specs.List.{flat_map}
use Rattle.rr_bytes.specs.Parts.{joined_by_space}
use Rattle.rr_bytes.proofs.parts.join_further.Given as goal

-- the texts joined so far and those to come are all
abbrev pub invariant-further : goal.invariant-further
invariant-further l =
    l.joined.items ++ flat_map (λ text. 32 ∷ text.now) (drop l.text-index l.further)
    ≡ joined_by_space (l.first ∷ map (λ text. text.now) l.further)
