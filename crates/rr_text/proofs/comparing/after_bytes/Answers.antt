use Rattle.rr_text.proofs.ComparingLemmas.{stripped}
use Rattle.rr_text.proofs.comparing.after_bytes.Goals as goal

pub returns : goal.returns
returns c = stripped c.args.bytes.now c.args.text.now c.strip_prefix.result
    c.strip_prefix.ensures.cases
