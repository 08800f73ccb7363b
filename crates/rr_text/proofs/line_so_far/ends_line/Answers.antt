use Rattle.rr_text.proofs.LineSoFarLemmas.{last_ends}
use Rattle.rr_text.proofs.line_so_far.ends_line.Goals as goal

pub returns-in-len1-up : goal.returns-in-len1-up
returns-in-len1-up c = last_ends _ c.requires
