use Rattle.std.proofs.Common.{ap, subst, ◌∙◌}
use Rattle.std.specs.FinMap.{get, insert}
use Rattle.rr_auth.specs.Registries.{Reg}
use Rattle.rr_index.specs.OriginIndexes.{HasOrigins}
use Rattle.rr_index.proofs.Referrers.{put_and_taken}
use Rattle.rr_index.proofs.indexes.Indexes.enter_place.Goals as goal

pub returns-in-Err-clause-err : goal.returns-in-Err-clause-err
returns-in-Err-clause-err c = λ r places free.
    let k = c.key-key.result.now in
    let o = c.args.object.now in (
      c.in-Err.ensures.err r places.0,
      subst (λ (m : Reg). HasOrigins m c.take.new.self.routes)
          (put_and_taken r k o (ap (get r) c.key-key.ensures.value ∙ free))
          (c.take.ensures (insert r k o) (c.in_ok-add.ensures.ok r o places.1)),
    )
