use Rattle.rr_desk.proofs.Opens.{addresses_line}
use Rattle.rr_desk.proofs.opening.addresses_paragraph.Goals as goal

pub span_paragraph-requires : goal.span_paragraph-requires
span_paragraph-requires c = addresses_line
