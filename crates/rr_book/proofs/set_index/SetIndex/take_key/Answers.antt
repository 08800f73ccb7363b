use Rattle.std.proofs.Common.{Option, false, refl, ap, subst, ◌∙◌}
use Rattle.std.specs.Prelude.{IsSome, cond}
use Rattle.std.specs.BTreeSet.{BTreeSet, contains}
use Rattle.std.specs.Option.{option_map_or}
use Rattle.std.specs.Ordering.{eq_by_cmp}
use Rattle.rr_object.specs.declared.key.Key.{Key}
use Rattle.rr_object.specs.KeyOrders.{key_cmp}
use Rattle.rr_book.proofs.KeysUnderSets.{taken_under, updated_keys}
use Rattle.rr_book.proofs.set_index.SetIndex.take_key.Goals as goal

pub returns-in-Some-clause-taken : goal.returns-in-Some-clause-taken
returns-in-Some-clause-taken c =
    let before = c.in-Some.keys.now in
    let after = c.remove.new.self in
    let key = c.args.key.now in
    let there = c.in-Some.ensures.value in
    taken_under c.args.self.now.keys (c.get_mut.follows.lender after) c.args.name.now key after
    ((c.get_mut.follows.holds after).3 (subst IsSome there refl)).0
    (λ k.
    updated_keys before after key false c.remove.ensures.updates k
    ∙ ap (λ (o : Option (BTreeSet Key)). cond (eq_by_cmp key_cmp key k) false
    (option_map_or (λ ks. contains key_cmp ks k) o false)) there)
