use Rattle.std.proofs.Common.{◌∙◌, ap, sym, Some}
use Rattle.rr_text.proofs.KeptLemmas.{kept_of}
use Rattle.rr_text.proofs.canonical.read_canonical.Goals as goal

pub returns-clause-only : goal.returns-clause-only
returns-clause-only c = λ fields some good same.
    ap (λ fs. Some fs)
    (c.kept.ensures ∙ (kept_of fields _ good (c.in_ok-from_slice.ensures.items ∙ sym same)).0)
