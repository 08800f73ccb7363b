use Rattle.std.proofs.Common.{◌≡◌, ◌++◌, append_assoc, take}
use Rattle.std.specs.List.{flat_map}
use Rattle.std.proofs.lemmas.Result.{err_from_is_err_and}
use Rattle.rr_io.proofs.Transfers.{Takes-then, TakesPrefix-then}
use Rattle.rr_answer.proofs.Parts.{parts_split}
use Rattle.rr_answer.proofs.writing.write_parts.Goals as goal

pub returns-in_err-count : goal.returns-in_err-count
returns-in_err-count g c =
    let exit = err_from_is_err_and c.from_residual.result c.from_residual.ensures.1 in
    let before = c.rest.invariant in
    rw (exit.1, before.1) (TakesPrefix-then _ _ before.2 c.in_err-count.ensures)

-- what was taken so far, and the parts that were written now
pub rest-preserved : goal.rest-preserved
rest-preserved g c =
    let before = c.rest.invariant in
    let bytes = g.T.Part.bytes in
    let count = c.in_ok-count.count in
    let rest = c.rest.rest.now in
    let whole : flat_map bytes c.args.parts.now ≡ (before.0 ++ flat_map bytes (take count rest)) ++
    flat_map bytes c.split_at.result.1.now =
    rw (c.split_at.ensures.back, append_assoc, ← parts_split bytes count rest) before.1 in (
      before.0 ++ flat_map bytes (take count rest),
      whole,
      Takes-then _ _ before.2 c.in_ok-count.ensures.takes,
    )
