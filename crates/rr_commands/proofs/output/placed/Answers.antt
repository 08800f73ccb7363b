use Rattle.std.proofs.Common.{string_bytes}
use Rattle.rr_commands.proofs.output.placed.Goals as goal

pub returns : goal.returns
returns c = record {
  trouble = c.placed.ensures.trouble;
  shows = (
    string_bytes c.shown_database-shown.result,
    rw c.as_str.ensures.value at c.shown_database-shown.ensures,
    rw c.placed.ensures.trouble c.placed.ensures.shows,
  );
}
