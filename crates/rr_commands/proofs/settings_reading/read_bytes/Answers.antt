use Rattle.rr_io.specs.Counted.{counted_inner}
use Rattle.rr_commands.proofs.FileLemmas.{limited}
use Rattle.rr_commands.proofs.settings_reading.read_bytes.Goals as goal

pub returns-in-Ok-clause-read : goal.returns-in-Ok-clause-read
returns-in-Ok-clause-read g c = record {
  given = g.F.File.Read.remaining c.in_ok-open.field-0;
  opened = c.in_ok-open.ensures.opened;
  part = rw (← c.new.ensures) (limited (λ r. g.F.File.Read.remaining (counted_inner r.counted))
      c.new.result c.take-taken.result.inner 1048577 c.take-taken.result.limit
      c.new-bytes.result.items c.read_to_end-end.new.buf.items
      c.take-taken.ensures.inner c.take-taken.ensures.limit c.new-bytes.ensures.items
      c.in-Ok.ensures.bytes);
}
