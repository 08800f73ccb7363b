use Rattle.std.proofs.Common.{string_bytes}
use Rattle.rr_commands.proofs.output.path_and_found.Goals as goal

pub returns : goal.returns
returns c = (
  string_bytes c.in_ok-shown.shown,
  c.in_ok-shown.ensures,
  c.in_ok-push_str.ensures.bytes,
)
