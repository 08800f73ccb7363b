use Rattle.std.proofs.Common.{◌≡◌, ℕ, List, ◌++◌, drop}
use Rattle.std.specs.Prelude.{flat_map}
use Rattle.rr_io.specs.Sending.{Takes}
use Rattle.rr_io.proofs.sending.write_pieces.Given as goal

abbrev pub invariant-pieces : goal.invariant-pieces
invariant-pieces g l =
    (taken : List ℕ) × (flat_map (λ piece. piece.now) l.pieces ≡ taken ++ flat_map
    (λ piece. piece.now) (drop l.piece-index l.pieces))
    × Takes (g.W.Writer.told l.initial.writer) (g.W.Writer.told l.writer) taken
