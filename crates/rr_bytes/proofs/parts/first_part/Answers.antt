use Rattle.std.proofs.Common.{sym}
use Rattle.rr_bytes.specs.ByteSets.{is_in}
use Rattle.rr_bytes.proofs.PlaceLemmas.{cut_some}
use Rattle.rr_bytes.proofs.parts.first_part.Goals as goal

pub returns-in-Some-clause-some : goal.returns-in-Some-clause-some
returns-in-Some-clause-some c =
    rw (c.split_at-in-Some.ensures.back, c.split_at.ensures.back, c.split_at.ensures.front)
    (cut_some (is_in c.args.separators) c.args.text.now c.in-Some.end (sym c.in-Some.ensures))
