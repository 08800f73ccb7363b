use Rattle.std.proofs.Common.{◌≡◌, ◌++◌, List, ℕ, length}
use Rattle.rr_text.specs.DraftParts.{IsUnclosed}
use Rattle.rr_text.proofs.draft.Draft.add_lines.Given as goal

abbrev pub invariant-lines : goal.invariant-lines
invariant-lines l = (done : List ℕ) × (l.text ≡ done ++ l.rest)
    × ((past : List ℕ) → IsUnclosed past l.initial.self → IsUnclosed (past ++ done) l.self)

abbrev pub decreases-lines : goal.decreases-lines
decreases-lines l = length l.rest
