use Rattle.std.proofs.Common.{◌++◌, ◌∷◌, [], ◌+◌, ◌∙◌, ap, sym, append_assoc, map, drop}
use Rattle.std.proofs.lemmas.Result.{err_from_is_err_and}
use Rattle.rr_io.proofs.Transfers.{Takes-then, TakesPrefix-then, TakesPrefix-more}
use Rattle.rr_commands.specs.Faults.{byte_on_line}
use Rattle.rr_commands.proofs.LineLemmas.{map-next}
use Rattle.rr_commands.proofs.command_fault.write_on_line.Goals as goal

pub returns-in_err-write_all : goal.returns-in_err-write_all
returns-in_err-write_all g c =
    let exit = err_from_is_err_and c.from_residual.result c.from_residual.ensures.1 in
    let before = c.bytes.invariant in
    let next = map-next byte_on_line c.args.text.now c.bytes.byte-index 0 c.bytes-test.true in
    rw (exit.1, before.1, next, ← c.byte_on_line.ensures)
    (TakesPrefix-then _ _ before.2 (TakesPrefix-more _ _ c.in_err-write_all.ensures))

pub bytes-preserved : goal.bytes-preserved
bytes-preserved g c =
    let before = c.bytes.invariant in
    let next = map-next byte_on_line c.args.text.now c.bytes.byte-index 0 c.bytes-test.true in
    let after = map byte_on_line (drop (c.bytes.byte-index + 1) c.args.text.now) in
    let cut =
    before.1
    ∙ (ap (λ rest. before.0 ++ rest) (next ∙ ap (λ b. b ∷ after) (sym c.byte_on_line.ensures))
    ∙ sym (append_assoc before.0 (c.byte_on_line.result ∷ []) after)) in (
      _,
      cut,
      Takes-then _ _ before.2 c.in_ok-write_all.ensures,
    )
