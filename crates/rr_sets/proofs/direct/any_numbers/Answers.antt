use Rattle.std.proofs.Common.{ℕ, List, Contains, subst, sym}
use Rattle.std.proofs.lemmas.Result.{IfOk-weaker}
use Rattle.rr_sets.specs.Lists.{IsAutNum, ListsOnce}
use Rattle.rr_sets.proofs.Numbers.{numbers_of_aut_nums}
use Rattle.rr_sets.proofs.direct.any_numbers.Goals as goal

pub returns-in_ok-aut_nums : goal.returns-in_ok-aut_nums
returns-in_ok-aut_nums g c =
    let lists : ListsOnce (IsAutNum (g.B.Book.contents c.args.book.now)) c.deref.result.now =
    subst (ListsOnce (IsAutNum (g.B.Book.contents c.args.book.now))) (sym c.deref.ensures.value)
    c.in_ok-aut_nums.ensures.all in
    IfOk-weaker c.numbers_of.result _ _
    (λ numbers is n.
    let same = numbers_of_aut_nums (g.B.Book.contents c.args.book.now) c.aut_nums.ensures.sound
    c.deref.result.now lists n in (
      λ has. (sym c.if-is_as_any.ensures, same.0 (subst (λ (l : List ℕ). Contains l n) is has)),
      λ any. rw is (same.1 any.1),
    ))
    c.numbers_of.ensures
