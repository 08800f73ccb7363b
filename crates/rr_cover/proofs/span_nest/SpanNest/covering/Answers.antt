use Rattle.std.proofs.Common.{◌&&◌, sym, ap, ◌∙◌}
use Rattle.std.specs.FinMap.{contains_key}
use Rattle.rr_number.specs.Spans.{covers}
use Rattle.rr_cover.proofs.NestModel.{held_nested}
use Rattle.rr_cover.proofs.Ordered.{whole_list}
use Rattle.rr_cover.proofs.span_nest.SpanNest.covering.Goals as goal

pub returns : goal.returns
returns g c =
    let listed = c.in_ok-push_covering.ensures.ok in
    whole_list c.args.self.now (λ u. covers u c.args.span) _ c.put_in_order.ensures.rising (λ u.
    c.put_in_order.ensures.same u
    ∙ rw c.new-spans.ensures.items at (listed u)
    ∙ ap (λ b. b && covers u c.args.span) (sym (held_nested c.self.inside.root u)
    ∙ ap (λ m. contains_key m u) c.self.view_is))
