use Rattle.std.proofs.Common.{List, Contains, subst, sym}
use Rattle.std.proofs.lemmas.Result.{IfOk-weaker}
use Rattle.rr_number.specs.Ranges.{RangeParts}
use Rattle.rr_sets.specs.Lists.{IsRegisteredRoute, ListsOnce}
use Rattle.rr_sets.proofs.RangeLists.{ranges_of_all}
use Rattle.rr_sets.proofs.ranges.any_ranges.Goals as goal

pub returns-in_ok-routes : goal.returns-in_ok-routes
returns-in_ok-routes g c =
    let lists : ListsOnce (IsRegisteredRoute (g.B.Book.contents c.args.book.now))
    c.deref.result.now =
    subst (ListsOnce (IsRegisteredRoute (g.B.Book.contents c.args.book.now)))
    (sym c.deref.ensures.value) c.in_ok-routes.ensures.all in
    IfOk-weaker c.ranges_of.result _ _
    (λ ranges is range.
    let same = ranges_of_all (g.B.Book.contents c.args.book.now) c.routes.ensures.sound
    c.deref.result.now lists range in (
      λ has. (
        sym c.if-is_rs_any.ensures,
        same.0 (subst (λ (l : List RangeParts). Contains l range) is
            has),
      ),
      λ any. rw is (same.1 any.1),
    ))
    c.ranges_of.ensures
