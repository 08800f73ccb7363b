use Rattle.std.proofs.Common.{subst, sym}
use Rattle.std.specs.FinMap.{remove}
use Rattle.rr_object.specs.declared.key.Key.{Key}
use Rattle.rr_index.proofs.Originated.{origin_out, rest_out}
use Rattle.rr_index.specs.OriginIndexes.{HasOrigins}
use Rattle.rr_index.proofs.origin_index.OriginIndex.take.Goals as goal

pub returns-in-Route : goal.returns-in-Route
returns-in-Route c = λ r has.
    subst (λ (k : Key). HasOrigins (remove r k) c.remove.new.self) (sym c.in-Route.is)
    (origin_out r c.in-Route.origin c.in-Route.prefix c.args.self.now.routes c.remove.new.self has
    c.remove.ensures.updates)

pub returns-in_default : goal.returns-in_default
returns-in_default c = λ r has. rest_out r c.args.self.now.routes has c.args.key.now
    c.in_default.not-Route
