use Rattle.std.proofs.Common.{cond, sym, subst, ap, ◌∙◌}
use Rattle.std.specs.FinMap.{remove}
use Rattle.rr_object.specs.declared.key.Key.{Key}
use Rattle.rr_object.specs.declared.key.Key.TheVariants.{AsBlock, Inetnum}
use Rattle.rr_cover.specs.SpanMaps.{SpanMap}
use Rattle.rr_number.specs.Prefixes.{span_of}
use Rattle.rr_index.proofs.Spans.{removed_block, removed_inetnum, removed_rest, removed_told}
use Rattle.rr_index.specs.SpanIndexes.{HasSpans}
use Rattle.rr_index.proofs.span_index.SpanIndex.take.Goals as goal

pub returns-in-Inetnum : goal.returns-in-Inetnum
returns-in-Inetnum c = λ r has told.
    subst (λ (k : Key). HasSpans (remove r k) c.remove.new.self c.args.self.now.blocks
    c.args.self.now.routes) (sym c.in-Inetnum.is)
    (subst (λ (m : SpanMap (Unit {0})). HasSpans (remove r (Inetnum c.in-Inetnum.span)) m
    c.args.self.now.blocks c.args.self.now.routes) (sym c.remove.ensures.rest)
    (removed_inetnum r _ _ _ has c.in-Inetnum.span))

pub returns-in-AsBlock : goal.returns-in-AsBlock
returns-in-AsBlock c = λ r has told.
    subst (λ (k : Key). HasSpans (remove r k) c.args.self.now.inetnums c.remove-in-AsBlock.new.self
    c.args.self.now.routes) (ap AsBlock c.span.ensures.value ∙ sym c.in-AsBlock.is)
    (subst (λ (m : SpanMap (Unit {0})). HasSpans (remove r (AsBlock c.span.result))
    c.args.self.now.inetnums m c.args.self.now.routes) (sym c.remove-in-AsBlock.ensures.rest)
    (removed_block r _ _ _ has c.span.result))

pub returns-then-not-is_routed : goal.returns-then-not-is_routed
returns-then-not-is_routed c = λ r has told.
    let p = c.in-Route.prefix in
    let routes = c.args.self.now.routes in
    subst (λ (m : SpanMap (Unit {0})). HasSpans (remove r c.args.key.now) c.args.self.now.inetnums
    c.args.self.now.blocks m)
    (ap (λ t. cond t routes (remove routes (span_of p))) c.if-not-is_routed.true
    ∙ sym c.remove-then-not-is_routed.ensures.rest)
    (removed_told r _ _ routes has c.args.key.now p c.in-Route.field-1 c.args.is_routed
    c.in-Route.is c.length-length.ensures.holds told)

pub returns-else-not-is_routed : goal.returns-else-not-is_routed
returns-else-not-is_routed c = λ r has told.
    let p = c.in-Route.prefix in
    let routes = c.args.self.now.routes in
    subst (λ (m : SpanMap (Unit {0})). HasSpans (remove r c.args.key.now) c.args.self.now.inetnums
    c.args.self.now.blocks m)
    (ap (λ t. cond t routes (remove routes (span_of p))) c.if-not-is_routed.false)
    (removed_told r _ _ routes has c.args.key.now p c.in-Route.field-1 c.args.is_routed
    c.in-Route.is c.length-length.ensures.holds told)

pub returns-in_default : goal.returns-in_default
returns-in_default c = λ r has told. removed_rest r _ _ _ has c.args.key.now
    c.in_default.not-Inetnum c.in_default.not-AsBlock c.in_default.not-Route
