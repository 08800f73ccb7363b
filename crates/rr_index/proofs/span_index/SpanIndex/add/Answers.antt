use Rattle.std.proofs.Common.{sym, subst, ap, ◌∙◌}
use Rattle.std.specs.FinMap.{insert}
use Rattle.std.proofs.lemmas.Result.{on_ok_weaker}
use Rattle.rr_object.specs.declared.key.Key.{Key}
use Rattle.rr_object.specs.declared.key.Key.TheVariants.{AsBlock, Inetnum, Route}
use Rattle.rr_cover.specs.SpanMaps.{SpanMap}
use Rattle.rr_index.proofs.Spans.{added_block, added_inetnum, added_rest, added_route}
use Rattle.rr_index.specs.Private.{is_crossed}
use Rattle.rr_index.specs.SpanIndexes.{HasSpans}
use Rattle.rr_index.proofs.span_index.SpanIndex.add.Goals as goal

pub hold-requires : goal.hold-requires
hold-requires c = ap (is_crossed c.args.self.now.inetnums c.args.self.now.blocks)
    (sym c.in-Inetnum.is) ∙ c.requires

pub hold-requires-in-AsBlock : goal.hold-requires-in-AsBlock
hold-requires-in-AsBlock c =
    ap (is_crossed c.args.self.now.inetnums c.args.self.now.blocks)
    (ap AsBlock c.span.ensures.value ∙ sym c.in-AsBlock.is) ∙ c.requires

pub returns-in-Inetnum-clause-ok : goal.returns-in-Inetnum-clause-ok
returns-in-Inetnum-clause-ok c =
    on_ok_weaker c.hold.result (λ grown r o has.
    subst (λ (k : Key). HasSpans (insert r k o) c.hold.new.nest c.args.self.now.blocks
    c.args.self.now.routes) (sym c.in-Inetnum.is)
    (subst (λ (m : SpanMap (Unit {0})). HasSpans (insert r (Inetnum c.in-Inetnum.span) o) m
    c.args.self.now.blocks c.args.self.now.routes) (sym grown)
    (added_inetnum r _ _ _ has c.in-Inetnum.span o))) c.hold.ensures.ok

pub returns-in-AsBlock-clause-ok : goal.returns-in-AsBlock-clause-ok
returns-in-AsBlock-clause-ok c =
    on_ok_weaker c.hold-in-AsBlock.result (λ grown r o has.
    subst (λ (k : Key). HasSpans (insert r k o) c.args.self.now.inetnums c.hold-in-AsBlock.new.nest
    c.args.self.now.routes) (ap AsBlock c.span.ensures.value ∙ sym c.in-AsBlock.is)
    (subst (λ (m : SpanMap (Unit {0})). HasSpans (insert r (AsBlock c.span.result) o)
    c.args.self.now.inetnums m c.args.self.now.routes) (sym grown)
    (added_block r _ _ _ has c.span.result o))) c.hold-in-AsBlock.ensures.ok

pub returns-in-Route-clause-ok : goal.returns-in-Route-clause-ok
returns-in-Route-clause-ok c =
    on_ok_weaker c.hold_prefix.result (λ grown r o has.
    subst (λ (k : Key). HasSpans (insert r k o) c.args.self.now.inetnums c.args.self.now.blocks
    c.hold_prefix.new.tree) (sym c.in-Route.is)
    (subst (λ (m : SpanMap (Unit {0})).
    HasSpans (insert r (Route c.in-Route.prefix c.in-Route.field-1) o) c.args.self.now.inetnums
    c.args.self.now.blocks m) (sym grown) (added_route r _ _ _ has c.in-Route.prefix
    c.in-Route.field-1 o c.length-length.ensures.holds))) c.hold_prefix.ensures.ok

pub returns-in_default : goal.returns-in_default
returns-in_default c = record {
  ok = λ r o has. added_rest r _ _ _ has c.args.key.now o c.in_default.not-Inetnum
      c.in_default.not-AsBlock c.in_default.not-Route;
  err = tt;
}
