use Rattle.std.proofs.Common.{◌≤◌, take}
use Rattle.rr_commands.specs.ObjectRows.{AreOfOther}
use Rattle.rr_commands.proofs.object_rows.are_mostly_others.Given as goal

abbrev pub invariant-rows : goal.invariant-rows
invariant-rows l =
    (l.others ≤ l.row-index) × AreOfOther l.source l.others (take l.row-index l.rows)
