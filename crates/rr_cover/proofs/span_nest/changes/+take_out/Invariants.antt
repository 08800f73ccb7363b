use Rattle.rr_cover.specs.NestParts.{count}
use Rattle.rr_cover.proofs.span_nest.changes.+take_out.Given as goal

-- each call has fewer nodes
abbrev pub decreases-take_out : goal.decreases-take_out
decreases-take_out g l = count l.nest
