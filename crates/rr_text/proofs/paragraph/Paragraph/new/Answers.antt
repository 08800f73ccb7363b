use Rattle.std.proofs.Common.{◌∙◌}
use Rattle.rr_text.proofs.KeptLemmas.{kept_of}
use Rattle.rr_text.proofs.paragraph.Paragraph.new.Goals as goal

pub kept-requires : goal.kept-requires
kept-requires c = (kept_of c.args.attributes.now _ c.requires c.in_ok-printed.ensures).1

pub returns : goal.returns
returns c = c.kept.ensures ∙ (kept_of c.args.attributes.now _ c.requires c.in_ok-printed.ensures).0
