use Rattle.std.proofs.Common.{ap, subst, sym, ◌∙◌}
use Rattle.std.specs.FinMap.{get, insert}
use Rattle.rr_auth.specs.Registries.{Reg}
use Rattle.rr_index.specs.NameIndexes.{HasNames}
use Rattle.rr_index.specs.declared.name_index.NameIndex.{NameIndex}
use Rattle.rr_index.proofs.Referrers.{put_and_taken}
use Rattle.rr_index.proofs.indexes.Indexes.enter_key.Goals as goal

pub returns-in-Ok-clause-ok : goal.returns-in-Ok-clause-ok
returns-in-Ok-clause-ok c = λ r places names.
    let o = c.args.object.now in
    let named : HasNames (insert r o.key o) c.add.new.self.keys =
    subst (λ k. HasNames (insert r k o) c.add.new.self.keys) c.key-key.ensures.value
    (c.in_ok-add.ensures.ok r o names) in (
      c.in-Ok.ensures.ok r places,
      subst (λ (x : NameIndex). HasNames (insert r o.key o) x.keys)
          (sym c.enter_place.ensures.places.names) named,
    )

pub returns-in-Err-clause-err : goal.returns-in-Err-clause-err
returns-in-Err-clause-err c = λ r places names free.
    let o = c.args.object.now in
    let k = c.key-key.result.now in
    let named : HasNames (insert r k o) c.enter_place.new.self.names.keys =
    subst (λ (x : NameIndex). HasNames (insert r k o) x.keys)
    (sym c.enter_place.ensures.places.names)
    (c.in_ok-add.ensures.ok r o names) in (
      c.in-Err.ensures.err r places free,
      subst (λ (m : Reg). HasNames m c.take.new.self.keys)
          (put_and_taken r k o (ap (get r) c.key-key.ensures.value ∙ free))
          (c.take.ensures (insert r k o) named),
    )
