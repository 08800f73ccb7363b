use Rattle.std.proofs.lemmas.Result.{err_from_is_err_and}
use Rattle.rr_io.proofs.Transfers.{TakesPrefix-then, TakesPrefix-more}
use Rattle.std.proofs.Common.{◌++◌}
use Rattle.rr_commands.specs.Faults.{fault_line, name_on_line, trouble_text}
use Rattle.rr_commands.proofs.WritingLemmas.{Writes-then}
use Rattle.rr_commands.proofs.command_fault.ProgramFault.write_line.Goals as goal

pub returns-in_err-write_all : goal.returns-in_err-write_all
unfolding fault_line
returns-in_err-write_all g c =
    let exit = err_from_is_err_and c.from_residual.result c.from_residual.ensures.1 in
    rw exit.1 (TakesPrefix-more _ _ c.in_err-write_all.ensures)

pub returns-in_err-write_about : goal.returns-in_err-write_about
unfolding fault_line
returns-in_err-write_about g c =
    let exit = err_from_is_err_and c.from_residual-in_err-write_about.result
    c.from_residual-in_err-write_about.ensures.1 in
    rw exit.1 (TakesPrefix-then _ _ c.in_ok-write_all.ensures
    (TakesPrefix-more _ _ c.in_err-write_about.ensures))

pub returns : goal.returns
unfolding fault_line
returns g c =
    let after = Writes-then _ _ (g.E.Writer.told c.write_trouble.new.errors) _
    (trouble_text c.args.self.now.trouble c.args.self.now.stream) c.write_trouble.result
    c.in_ok-write_about.ensures c.write_trouble.ensures in
    Writes-then _ _ (g.E.Writer.told c.write_trouble.new.errors) _
    (name_on_line c.args.self.now.about ++ trouble_text c.args.self.now.trouble
    c.args.self.now.stream) c.write_trouble.result
    c.in_ok-write_all.ensures after
