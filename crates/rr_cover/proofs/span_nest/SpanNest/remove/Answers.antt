use Rattle.std.proofs.Common.{sym, ap, ◌∙◌}
use Rattle.std.specs.FinMap.{get, remove}
use Rattle.rr_cover.proofs.NestModel.{nest_answers, nested_removed, sound_removed}
use Rattle.rr_cover.proofs.span_nest.SpanNest.remove.Goals as goal

pub returns : goal.returns
returns g c = record {
  value = c.take.ensures.value ∙ sym ((nest_answers c.self.inside.root).all c.args.span)
      ∙ ap (λ m. get m c.args.span) c.self.view_is;
  rest = nested_removed c.self.inside.root c.take.new.nest c.args.span c.take.ensures.rest.all
      ∙ ap (λ m. remove m c.args.span) c.self.view_is;
}

pub invariant_of-self : goal.invariant_of-self
invariant_of-self g c = sound_removed c.self.inside.root c.take.new.nest c.args.span
    c.self.invariant c.take.ensures.rest.nest c.take.ensures.rest.all
