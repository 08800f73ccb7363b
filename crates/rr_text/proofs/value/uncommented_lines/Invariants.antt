use Rattle.std.proofs.Common.{◌≡◌, map, take}
use Rattle.rr_text.specs.Meanings as meanings
use Rattle.rr_text.proofs.value.uncommented_lines.Given as goal

-- the lines said so far
abbrev pub invariant-lines : goal.invariant-lines
invariant-lines l = map (λ line. line.now) l.said.items ≡ map meanings.uncommented
    (map (λ line. line.now) (take l.line-index l.lines))
