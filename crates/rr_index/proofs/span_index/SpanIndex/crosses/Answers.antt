use Rattle.std.proofs.Common.{sym, ap, ◌∙◌}
use Rattle.rr_object.specs.declared.key.Key.TheVariants.{AsBlock}
use Rattle.rr_auth.specs.Conditions.{crosses_registered as crosses_key}
use Rattle.rr_index.proofs.Questions.{blocks_cross, inetnums_cross, rest_cross}
use Rattle.rr_index.proofs.span_index.SpanIndex.crosses.Goals as goal

pub returns-in-Inetnum : goal.returns-in-Inetnum
returns-in-Inetnum c = λ r sound has.
    c.crosses.ensures ∙ inetnums_cross r _ _ _ sound has c.in-Inetnum.span ∙ ap (crosses_key r)
    (sym c.in-Inetnum.is)

pub returns-in-AsBlock : goal.returns-in-AsBlock
returns-in-AsBlock c = λ r sound has.
    c.crosses-in-AsBlock.ensures ∙ blocks_cross r _ _ _ sound has c.span.result
    ∙ ap (crosses_key r) (ap AsBlock c.span.ensures.value ∙ sym c.in-AsBlock.is)

pub returns-in_default : goal.returns-in_default
returns-in_default c = λ r sound has. rest_cross r _ _ _ sound has c.args.key.now
    c.in_default.not-Inetnum c.in_default.not-AsBlock
