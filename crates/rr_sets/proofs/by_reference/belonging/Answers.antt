use Rattle.std.proofs.Common.{◌∙◌, subst, sym}
use Rattle.std.proofs.lemmas.Result.{IfOk-weaker}
use Rattle.rr_sets.specs.Lists.{IsReferrer, ListsOnce}
use Rattle.rr_sets.proofs.ByReference.{none_belong, those_belong}
use Rattle.rr_sets.proofs.by_reference.belonging.Goals as goal

pub returns-then-not-may_take : goal.returns-then-not-may_take
returns-then-not-may_take g c =
    none_belong (g.B.Book.contents c.args.book.now) c.args.name.now c.args.set.now.by_ref
    c.new.result.items c.new.ensures.items
    (sym c.may_take.ensures ∙ c.if-not-may_take.true)

pub returns : goal.returns
returns g c =
    let r = g.B.Book.contents c.args.book.now in
    let lists : ListsOnce (IsReferrer r c.args.name.now) c.deref.result.now =
    subst (ListsOnce (IsReferrer r c.args.name.now)) (sym c.deref.ensures.value)
    c.in_ok-referrers.ensures.all in
    IfOk-weaker c.taken.result _ _
    (λ objects is. those_belong r c.args.name.now c.args.set.now.by_ref c.deref.result.now
    objects.items lists is)
    c.taken.ensures
