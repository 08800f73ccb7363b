use Rattle.std.proofs.Common.{inr}
use Rattle.rr_commands.proofs.FileLemmas.{of_err, of_ok}
use Rattle.rr_commands.proofs.settings_reading.read_at.Goals as goal

pub returns-in-Ok-clause-read : goal.returns-in-Ok-clause-read
returns-in-Ok-clause-read g c = of_ok c.read_text.result _ _ _ c.read_text.ensures.ok
    c.read_text.ensures.short (λ read says short. record {
      text = c.as_slice.result.now;
      read = rw c.as_slice.ensures.value c.in-Ok.ensures.read;
      short = short;
      says = says;
    })

pub returns-in-Ok-clause-fails : goal.returns-in-Ok-clause-fails
returns-in-Ok-clause-fails g c = of_err c.read_text.result _ _ c.read_text.ensures.why
    (λ trouble why. inr (record {
      text = c.as_slice.result.now;
      read = rw c.as_slice.ensures.value c.in-Ok.ensures.read;
      why = why;
    }))
