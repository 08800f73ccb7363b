use Rattle.std.proofs.Common.{◌∙◌}
use Rattle.std.proofs.lemmas.List.{take-replicate}
use Rattle.rr_text.proofs.printing.blanks.Goals as goal

pub returns : goal.returns
returns c = c.split_at.ensures.front ∙ take-replicate c.args.count 16 32 c.requires
