use Rattle.rr_cover.specs.NestParts.{count}
use Rattle.rr_cover.proofs.span_nest.changes.+split_first.Given as goal

-- each call has fewer nodes
abbrev pub decreases-split_first : goal.decreases-split_first
decreases-split_first g l = count l.before
