use Rattle.std.proofs.Common.{◌++◌, ◌∙◌, Bor, List, ℕ, ap, sym, append_assoc}
use Rattle.std.proofs.lemmas.Result.{err_from_is_err_and}
use Rattle.rr_io.proofs.Transfers.{Takes-then, TakesPrefix-then, TakesPrefix-more, flat_map-next}
use Rattle.rr_io.proofs.sending.write_pieces.Goals as goal

pub returns-in_err-write_all : goal.returns-in_err-write_all
returns-in_err-write_all g c =
    let exit = err_from_is_err_and c.from_residual.result c.from_residual.ensures.1 in
    let before = c.pieces.invariant in
    let next = flat_map-next (λ (piece : Bor (List ℕ)). piece.now) c.args.pieces.now
    c.pieces.piece-index _ c.pieces-test.true in
    rw (exit.1, before.1, next)
    (TakesPrefix-then _ _ before.2 (TakesPrefix-more _ _ c.in_err-write_all.ensures))

pub pieces-preserved : goal.pieces-preserved
pieces-preserved g c =
    let before = c.pieces.invariant in
    let next = flat_map-next (λ (piece : Bor (List ℕ)). piece.now) c.args.pieces.now
    c.pieces.piece-index _ c.pieces-test.true in (
      _,
      before.1 ∙ (ap (λ rest. before.0 ++ rest) next ∙ sym (append_assoc before.0 _ _)),
      Takes-then _ _ before.2 c.in_ok-write_all.ensures,
    )
