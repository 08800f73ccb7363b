use Rattle.std.proofs.Common.{subst, sym}
use Rattle.std.specs.FinMap.{remove}
use Rattle.rr_auth.specs.Registries.{Reg, Sound}
use Rattle.rr_registry.proofs.Forgetting.{kept_without}
use Rattle.rr_registry.proofs.registry.Registry.delete.Goals as goal

pub invariant_of-self : goal.invariant_of-self
invariant_of-self g c =
    kept_without (g.B.Book.contents c.self.inside.book) (g.B.Book.contents c.remove.new.self)
    c.args.key.now c.self.inside.known c.forget.new.self
    c.self.invariant c.forget.ensures c.remove.ensures
    (subst (λ (r : Reg). Sound (remove r c.args.key.now)) (sym c.self.view_is)
    (c.requires.deleted c.in-Delete.is))
