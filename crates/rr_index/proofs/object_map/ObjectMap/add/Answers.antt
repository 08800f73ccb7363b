use Rattle.std.proofs.Common.{Some, ap, subst, ◌∙◌}
use Rattle.std.specs.BTreeMap.{Updates}
use Rattle.std.specs.FinMap.{insert}
use Rattle.rr_object.specs.contracts.key.KeyOrd.TheImpl as derived
use Rattle.rr_object.specs.declared.key.Key.{Key}
use Rattle.rr_index.proofs.Kept.{registry_inserted, rising}
use Rattle.rr_index.proofs.object_map.ObjectMap.add.Goals as goal

pub invariant_of-self : goal.invariant_of-self
invariant_of-self c = rising c.insert.new.self c.insert.ensures.ordered

pub returns-in-Ok-insert-clause-puts : goal.returns-in-Ok-insert-clause-puts
returns-in-Ok-insert-clause-puts c =
    let o = c.args.object in
    let update = subst (λ (k : Key). Updates (derived.ghosts).cmp c.self.inside.entries
    c.insert.new.self k (Some o)) (c.in-Ok.ensures ∙ c.key.ensures.value)
    c.in-Ok-insert.ensures.updates in
    record {
      ok = registry_inserted c.self.inside.entries c.insert.new.self o.key o c.self.invariant
          (rising c.insert.new.self c.insert.ensures.ordered) update
          ∙ ap (λ r. insert r o.key o) c.self.view_is;
      err = tt;
    }
