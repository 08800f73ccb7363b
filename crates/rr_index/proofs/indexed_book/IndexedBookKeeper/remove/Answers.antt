use Rattle.std.proofs.Common.{◌≡◌, Some, sym, ap, subst, ◌∙◌}
use Rattle.std.specs.FinMap.{get, remove}
use Rattle.rr_auth.specs.Registries.{Reg, Sound}
use Rattle.rr_index.specs.Indexes.{IsIndexedBy}
use Rattle.rr_index.proofs.Referrers.{take_nothing}
use Rattle.rr_index.proofs.indexed_book.IndexedBookKeeper.remove.Goals as goal

pub invariant_of-self : goal.invariant_of-self
invariant_of-self c =
    let r = c.self.inside.objects in
    let k = c.args.key.now in
    let at : get r k ≡ Some c.in-Some.old = sym c.remove.ensures.old ∙ c.in-Some.is in
    let own = c.self.invariant.sound.keyed k c.in-Some.old at in
    record {
      sound = subst Sound (sym c.remove.ensures.rest) (subst (λ (s : Reg). Sound (remove s k))
          (sym c.self.view_is) c.requires);
      indexes = c.leave_and_free.ensures r c.self.invariant.indexes (ap (get r) own ∙ at)
          (c.remove.ensures.rest ∙ ap (remove r) (sym own));
    }

pub invariant_of-self-in_default : goal.invariant_of-self-in_default
invariant_of-self-in_default c =
    let r = c.self.inside.objects in
    let k = c.args.key.now in
    subst (λ (s : Reg). IsIndexedBy s c.self.inside.indexes)
    (sym (c.remove.ensures.rest ∙ take_nothing r k
    (sym c.remove.ensures.old ∙ c.in_default.is))) c.self.invariant
