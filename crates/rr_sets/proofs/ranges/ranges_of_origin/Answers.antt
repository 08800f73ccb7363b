use Rattle.std.proofs.Common.{◌∙◌, List, Contains, subst}
use Rattle.std.proofs.lemmas.Result.{IfOk-weaker}
use Rattle.rr_number.specs.Ranges.{RangeParts}
use Rattle.rr_sets.proofs.RangeLists.{ranges_originated}
use Rattle.rr_sets.proofs.ranges.ranges_of_origin.Goals as goal

pub returns : goal.returns
returns g c =
    IfOk-weaker c.bare_ranges.result _ _
    (λ ranges is range.
    let same = ranges_originated (g.B.Book.contents c.args.book.now) c.prefixes_of.ensures.sound
    c.args.origin c.deref.result.now
    (c.deref.ensures.value ∙ c.in_ok-prefixes_of.ensures.all) range in (
      λ has. same.0 (subst (λ (l : List RangeParts). Contains l range) is has),
      λ originated.
          rw is (same.1 originated),
    ))
    c.bare_ranges.ensures
