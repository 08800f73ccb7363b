use Rattle.rr_desk.proofs.Opens.{numbers_line}
use Rattle.rr_desk.proofs.opening.numbers_paragraph.Goals as goal

pub span_paragraph-requires : goal.span_paragraph-requires
span_paragraph-requires c = numbers_line
