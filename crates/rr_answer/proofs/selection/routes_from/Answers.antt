use Rattle.std.proofs.Common.{◌∙◌, ap, sym}
use Rattle.std.specs.FinMap.{get}
use Rattle.rr_object.specs.declared.key.Key.TheVariants.{Route}
use Rattle.rr_sets.specs.Lists.{lent}
use Rattle.rr_answer.proofs.Routes.{found_more, found_no_more}
use Rattle.rr_answer.proofs.selection.routes_from.Goals as goal
use Rattle.rr_answer.proofs.selection.routes_from.Goals.{in-Some+in_ok-push, in_default}

pub loop-origin-preserved : goal.loop-origin-preserved
loop-origin-preserved g c =
    elim c.match-route_of.branch [
      | in-Some+in_ok-push w ↦
          found_more (λ n. get (g.B.Book.contents c.args.book.now) (Route c.args.prefix n))
          c.args.origins.now c.loop-origin.origin-index c.origin-item.result
          c.loop-origin.found.items c.match-route_of.found.items w.in-Some.route
          c.loop-origin-test.true c.origin-item.is c.loop-origin.invariant
          (sym w.in-Some.ensures) (ap (λ v. v.items) w.found-is ∙ w.in_ok-push.ensures.items)
      | in_default w ↦
          ap (λ v. lent v.items) w.found-is
          ∙ found_no_more (λ n. get (g.B.Book.contents c.args.book.now) (Route c.args.prefix n))
          c.args.origins.now c.loop-origin.origin-index c.origin-item.result
          c.loop-origin.found.items c.loop-origin-test.true c.origin-item.is
          c.loop-origin.invariant (sym w.in_default.ensures)
    ]
