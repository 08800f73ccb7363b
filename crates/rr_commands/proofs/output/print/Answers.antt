use Rattle.std.proofs.Common.{◌∙◌}
use Rattle.rr_commands.proofs.output.print.Goals as goal

pub returns-in-Err : goal.returns-in-Err
returns-in-Err g c =
    (c.of_output.ensures.shows.trouble ∙ c.in-Err.ensures.0, c.in-Err.ensures.1)
