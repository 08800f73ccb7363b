use Rattle.std.proofs.Common.{sym, subst, ap, ◌∙◌}
use Rattle.std.proofs.lemmas.Result.{IfErr-weaker}
use Rattle.rr_object.specs.declared.key.Key.{Key}
use Rattle.rr_object.specs.declared.key.Key.TheVariants.{AsBlock, Inetnum}
use Rattle.rr_cover.specs.SpanMaps.{SpanMap}
use Rattle.rr_registry.proofs.Held.{block_entered, blocks_cross, both_good, crossed_fault}
use Rattle.rr_registry.proofs.Held.{inetnum_entered, inetnums_cross, rest_entered}
use Rattle.rr_auth.specs.Registries.{is_crossed_by_some}
use Rattle.rr_registry.specs.Private.{HoldsSpans, IsEntered}
use Rattle.rr_registry.proofs.gathered.Spans.enter.Goals as goal

pub returns-in-Inetnum-clause-ok : goal.returns-in-Inetnum-clause-ok
returns-in-Inetnum-clause-ok c =
    both_good c.hold.result c.hold.ensures.ok c.hold.ensures.free (λ grown free os has.
    subst (λ (k : Key). IsEntered os k c.hold.new.nest c.args.self.now.blocks) (sym c.in-Inetnum.is)
    (subst (λ (m : SpanMap (Unit {0})). IsEntered os (Inetnum c.in-Inetnum.span) m
    c.args.self.now.blocks) (sym grown) (inetnum_entered os _ _ has c.in-Inetnum.span free)))

pub returns-in-Inetnum-clause-err : goal.returns-in-Inetnum-clause-err
returns-in-Inetnum-clause-err c =
    IfErr-weaker c.hold.result _ _ (λ fault is. crossed_fault fault c.args.n _
    (λ os. HoldsSpans os c.args.self.now.inetnums c.args.self.now.blocks) c.args.key.now
    (λ os has crossed. ap (λ k. is_crossed_by_some k os) c.in-Inetnum.is
    ∙ sym (inetnums_cross os _ _ has c.in-Inetnum.span) ∙ crossed) is) c.hold.ensures.err

pub returns-in-AsBlock-clause-ok : goal.returns-in-AsBlock-clause-ok
returns-in-AsBlock-clause-ok c =
    both_good c.hold-in-AsBlock.result c.hold-in-AsBlock.ensures.ok c.hold-in-AsBlock.ensures.free
    (λ grown free os has.
    subst (λ (k : Key). IsEntered os k c.args.self.now.inetnums c.hold-in-AsBlock.new.nest)
    (ap AsBlock c.span.ensures.value ∙ sym c.in-AsBlock.is)
    (subst (λ (m : SpanMap (Unit {0})). IsEntered os (AsBlock c.span.result)
    c.args.self.now.inetnums m) (sym grown) (block_entered os _ _ has c.span.result free)))

pub returns-in-AsBlock-clause-err : goal.returns-in-AsBlock-clause-err
returns-in-AsBlock-clause-err c =
    IfErr-weaker c.hold-in-AsBlock.result _ _ (λ fault is. crossed_fault fault c.args.n _
    (λ os. HoldsSpans os c.args.self.now.inetnums c.args.self.now.blocks) c.args.key.now
    (λ os has crossed. ap (λ k. is_crossed_by_some k os)
    (c.in-AsBlock.is ∙ ap AsBlock (sym c.span.ensures.value))
    ∙ sym (blocks_cross os _ _ has c.span.result) ∙ crossed) is) c.hold-in-AsBlock.ensures.err

pub returns-in_default : goal.returns-in_default
returns-in_default c = record {
  ok = λ os has. rest_entered os _ _ has c.args.key.now
      c.in_default.not-Inetnum c.in_default.not-AsBlock;
  err = tt;
}
