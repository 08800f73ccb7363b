use Rattle.std.proofs.Common.{◌≡◌, ◌++◌, length, map}
use Rattle.rr_bytes.specs.ByteSets.{is_in}
use Rattle.rr_bytes.specs.Parts.{parts_at}
use Rattle.rr_bytes.proofs.parts.parts_between.Given as goal

-- the parts found so far, and those of the rest
abbrev pub invariant-parts : goal.invariant-parts
invariant-parts l = map (λ part. part.now) l.found.items ++ parts_at (is_in l.separators) l.rest
    ≡ parts_at (is_in l.separators) l.text

abbrev pub decreases-parts : goal.decreases-parts
decreases-parts l = length l.rest
