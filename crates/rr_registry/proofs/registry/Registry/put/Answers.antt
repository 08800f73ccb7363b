use Rattle.std.proofs.Common.{subst, sym}
use Rattle.std.specs.FinMap.{insert}
use Rattle.rr_auth.specs.Registries.{Reg, Sound}
use Rattle.rr_registry.proofs.Forgetting.{kept_put, kept_still}
use Rattle.rr_registry.proofs.registry.Registry.put.Goals as goal
use Rattle.rr_registry.proofs.registry.Registry.put.Goals.{in-Ok, in-Err}

pub invariant_of-self : goal.invariant_of-self
invariant_of-self g c =
    let o = c.args.object in
    elim c.match-insert.branch [
      | in-Ok w ↦ kept_put (g.B.Book.contents c.self.inside.book)
          (g.B.Book.contents c.insert.new.self) c.key.result.now c.self.inside.known
          c.forget.new.self
          c.self.invariant c.forget.ensures o c.key.ensures.value w.in-Ok.ensures.ok
          (subst (λ (r : Reg). Sound (insert r o.key o)) (sym c.self.view_is) c.requires)
      | in-Err w ↦ kept_still (g.B.Book.contents c.self.inside.book)
          (g.B.Book.contents c.insert.new.self) c.key.result.now c.self.inside.known
          c.forget.new.self
          c.self.invariant c.forget.ensures w.in-Err.ensures.err
    ]
