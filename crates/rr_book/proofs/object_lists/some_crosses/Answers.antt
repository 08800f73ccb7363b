use Rattle.std.proofs.Common.{◌∙◌, sym}
use Rattle.rr_book.proofs.Crossing.{none_crosses}
use Rattle.rr_book.proofs.object_lists.some_crosses.Goals as goal

pub returns-else-is_span : goal.returns-else-is_span
returns-else-is_span c = c.if-is_span.false ∙ sym (none_crosses c.args.key.now c.args.objects.now
    (sym c.is_span.ensures ∙ c.if-is_span.false))
