use Rattle.std.proofs.Common.{subst, sym}
use Rattle.std.specs.FinMap.{insert}
use Rattle.rr_object.specs.declared.key.Key.{Key}
use Rattle.rr_index.proofs.Originated.{origin_in, rest_in}
use Rattle.rr_index.specs.OriginIndexes.{HasOrigins}
use Rattle.rr_index.proofs.origin_index.OriginIndex.add.Goals as goal

pub returns-in_ok-insert-clause-ok : goal.returns-in_ok-insert-clause-ok
returns-in_ok-insert-clause-ok c = λ r o has.
    subst (λ (k : Key). HasOrigins (insert r k o) c.insert.new.self) (sym c.in-Route.is)
    (origin_in r c.in-Route.origin c.in-Route.prefix o c.args.self.now.routes c.insert.new.self has
    c.in_ok-insert.ensures.updates)

pub returns-in_default : goal.returns-in_default
returns-in_default c = record {
  ok = λ r o has. rest_in r c.args.self.now.routes has c.args.key.now
      o c.in_default.not-Route;
  err = tt;
}
