use Rattle.std.proofs.Common.{sym, ap, subst, ◌∙◌}
use Rattle.std.specs.FinMap.{remove}
use Rattle.rr_auth.specs.Registries.{Sound}
use Rattle.rr_book.specs.Books.{book_of}
use Rattle.rr_book.proofs.KeysUnderSets.{indexed_none, indexed_removal}
use Rattle.rr_book.proofs.Order.{book_others}
use Rattle.rr_book.proofs.plain_book.PlainBookKeeper.remove.Goals as goal

pub invariant_of-self : goal.invariant_of-self
invariant_of-self c =
    let k = c.args.key.now in
    indexed_removal c.self.inside.objects.items c.self.inside.referrers.keys c.self.invariant
    c.remove.new.objects.items k c.in-Some.old c.take_all_and_free.new.self.keys
    (subst (λ r. Sound (remove r k)) (sym c.self.view_is) c.requires) c.remove.ensures.rest
    (sym c.in-Some.is ∙ c.remove.ensures.old) c.take_all_and_free.ensures

pub invariant_of-self-in_default : goal.invariant_of-self-in_default
invariant_of-self-in_default c =
    let k = c.args.key.now in
    indexed_none c.self.inside.objects.items c.self.inside.referrers.keys c.self.invariant
    c.remove.new.objects.items k
    (subst (λ r. Sound (remove r k)) (sym c.self.view_is) c.requires) c.remove.ensures.rest
    (sym c.in_default.is ∙ c.remove.ensures.old)

pub returns-in-Some : goal.returns-in-Some
returns-in-Some c =
    let k = c.args.key.now in
    ap book_of c.remove.ensures.rest
    ∙ book_others k c.self.inside.objects.items c.self.invariant.book.ordered
    ∙ ap (λ r. remove r k) c.self.view_is

pub returns-in_default : goal.returns-in_default
returns-in_default c =
    let k = c.args.key.now in
    ap book_of c.remove.ensures.rest
    ∙ book_others k c.self.inside.objects.items c.self.invariant.book.ordered
    ∙ ap (λ r. remove r k) c.self.view_is
