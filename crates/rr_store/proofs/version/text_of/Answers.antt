use Rattle.rr_store.proofs.VersionLemmas.{decimal_is_text}
use Rattle.rr_store.proofs.version.text_of.Goals as goal

pub returns-in-Err-clause-only : goal.returns-in-Err-clause-only
returns-in-Err-clause-only c n low same none = c.in-Err.ensures.cases.0
    (decimal_is_text n c.args.bytes.now same low)
