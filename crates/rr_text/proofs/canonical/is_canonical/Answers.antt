use Rattle.std.proofs.Common.{◌≡◌, ◌∙◌, ap, sym, is_some, None}
use Rattle.rr_text.proofs.FaultLemmas.{no_fault}
use Rattle.rr_text.proofs.KeptLemmas.{canonical_kept, canonical_only}
use Rattle.rr_text.proofs.canonical.is_canonical.Goals as goal

pub returns-then-not-opens-clause-only : goal.returns-then-not-opens-clause-only
returns-then-not-opens-clause-only c = λ fields some good same.
    let so = (canonical_only c.args.text.now fields some good same).0 in
    let opens = c.opens.ensures ∙ so in cc

pub returns-then-is_some-clause-only : goal.returns-then-is_some-clause-only
returns-then-is_some-clause-only c = λ fields some good same.
    let so = (canonical_only c.args.text.now fields some good same).1 in
    let none : c.block_fault.result ≡ None = c.block_fault.ensures ∙ so in
    cc (ap is_some none)

pub returns-clause-yes : goal.returns-clause-yes
returns-clause-yes c = λ all.
    canonical_kept c.args.text.now (sym c.opens.ensures ∙ c.if-not-opens.false)
    (sym c.block_fault.ensures ∙ no_fault c.block_fault.result
    (sym c.is_some.ensures ∙ c.if-is_some.false)) (sym c.are_printed.ensures ∙ all)

pub returns-clause-only : goal.returns-clause-only
returns-clause-only c = λ fields some good same. c.are_printed.ensures
    ∙ (canonical_only c.args.text.now fields some good same).2
