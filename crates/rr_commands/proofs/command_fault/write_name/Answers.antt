use Rattle.std.proofs.Common.{codes}
use Rattle.rr_commands.proofs.WritingLemmas.{Writes-then}
use Rattle.rr_commands.proofs.command_fault.write_name.Goals as goal

pub returns : goal.returns
returns g c =
    Writes-then _ _ (g.E.Writer.told c.write_all.new.writer) _ (codes ": ") c.write_all.result
    c.in_ok-write_on_line.ensures c.write_all.ensures
