use Rattle.std.proofs.Common.{length}
use Rattle.rr_registry.specs.OpenSpanParts.{IsShortened}
use Rattle.rr_registry.proofs.open_spans.shorten.Given as goal

abbrev pub invariant-loop-lasts : goal.invariant-loop-lasts
invariant-loop-lasts l = IsShortened l.first l.initial.lasts.items l.lasts.items

abbrev pub decreases-loop-lasts : goal.decreases-loop-lasts
decreases-loop-lasts l = length l.lasts.items
