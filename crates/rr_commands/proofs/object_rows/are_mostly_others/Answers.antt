use Rattle.std.proofs.Common.{add-one, arith, refl}
use Rattle.std.proofs.lemmas.List.{take_more}
use Rattle.rr_commands.proofs.ObjectRowLemmas.{of_more, of_next}
use Rattle.rr_commands.proofs.object_rows.are_mostly_others.Goals.{else-is_of_other}
use Rattle.rr_commands.proofs.object_rows.are_mostly_others.Goals.{then-is_of_other}
use Rattle.rr_commands.proofs.object_rows.are_mostly_others.Goals as goal

pub rows-preserved : goal.rows-preserved
rows-preserved c =
    let before = c.rows.invariant in
    let row = c.row-item.result in
    let next = take_more c.args.rows.now c.rows.row-index row c.rows-test.true in
    elim c.if-is_of_other.branch [
      | then-is_of_other w ↦ (
        omega arith,
        rw (w.others-is, next, ← c.row-item.is, add-one)
            (of_next _ _ _ row (w.if-is_of_other.ensures refl) before.1),
      )
      | else-is_of_other w ↦ (
        omega arith,
        rw (w.others-is, next, ← c.row-item.is) (of_more _ _ _ row before.1),
      )
    ]
