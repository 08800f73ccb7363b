use Rattle.std.proofs.Common.{rules, Option, true, false, ap, subst, refl, ◌∙◌}
use Rattle.std.specs.Prelude.{IsSome, cond}
use Rattle.std.specs.BTreeSet.{BTreeSet, Updates, contains}
use Rattle.std.specs.Option.{option_map_or}
use Rattle.std.specs.Ordering.{eq_by_cmp}
use Rattle.rr_object.specs.contracts.key.KeyOrd.TheImpl as derived
use Rattle.rr_object.specs.declared.key.Key.{Key}
use Rattle.rr_object.specs.KeyOrders.{key_cmp}
use Rattle.rr_book.proofs.KeysUnderSets.{added_under, first_under, on_err, same_under, updated_keys}
use Rattle.rr_book.proofs.set_index.SetIndex.add_under.Goals as goal

pub returns-in_ok-insert-in-Some : goal.returns-in_ok-insert-in-Some
returns-in_ok-insert-in-Some c =
    let before = c.in-Some.keys.now in
    let after = c.insert.new.self in
    let there = c.in-Some.ensures.value in
    let update = subst (λ (k : Key). Updates (derived.ghosts).cmp before after k true)
    c.in_ok-key.ensures c.in_ok-insert-in-Some.ensures.updates in record {
      ok = added_under c.args.self.now.keys (c.get_mut.follows.lender after) c.args.name.now
          c.args.key.now after
          ((c.get_mut.follows.holds after).3 (subst IsSome there refl)).0
          (λ k.
          updated_keys before after c.args.key.now true update k
          ∙ ap (λ (o : Option (BTreeSet Key)). cond (eq_by_cmp key_cmp c.args.key.now k) true
          (option_map_or (λ ks. contains key_cmp ks k) o false)) there);
      err = search rules;
    }

pub returns-in_err-insert-in-Some : goal.returns-in_err-insert-in-Some
returns-in_err-insert-in-Some c =
    let before = c.in-Some.keys.now in
    let after = c.insert.new.self in
    let there = c.in-Some.ensures.value in record {
      ok = search rules;
      err = on_err c.from_residual-in_err-insert-in-Some.result
          (same_under c.args.self.now.keys (c.get_mut.follows.lender after) c.args.name.now before
          after ((c.get_mut.follows.holds after).3 (subst IsSome there refl)).0 there
          c.in_err-insert-in-Some.ensures.err);
    }

pub returns-in_ok-insert-in-None-2 : goal.returns-in_ok-insert-in-None-2
returns-in_ok-insert-in-None-2 c = record {
  ok = first_under c.args.self.now.keys c.get_mut.follows.lender-at-none
      c.insert-in-None-2.new.self
      c.args.name.now c.in_ok-copy-in-None.field-0 c.args.key.now c.in_ok-key.key
      c.new-keys.result c.insert-in-None.new.self c.get_mut.follows.holds-at-none
      c.in-None.ensures.value c.in_ok-copy-in-None.ensures c.in_ok-key.ensures
      c.in_ok-insert-in-None-2.ensures.updates.0 c.new-keys.ensures.empty
      c.in_ok-insert-in-None.ensures.updates;
  err = search rules;
}
