use Rattle.std.proofs.Common.{◌≡◌, ◌++◌, append_assoc, take}
use Rattle.std.proofs.lemmas.List.{take-append-drop}
use Rattle.rr_io.proofs.Transfers.{Takes-then}
use Rattle.rr_io.proofs.sending.write_all.Goals as goal

-- what was taken so far and the prefix that this write took
pub rest-preserved : goal.rest-preserved
rest-preserved g c =
    let before = c.rest.invariant in
    let count = c.in_ok-count.count in
    let rest = c.rest.rest.now in
    let prefix : c.args.bytes.now ≡ (before.0 ++ take count rest) ++ c.split_at.result.1.now =
    rw (c.split_at.ensures.back, append_assoc, take-append-drop count rest) before.1 in (
      before.0 ++ take count rest,
      prefix,
      Takes-then _ _ before.2 c.in_ok-count.ensures.takes,
    )
