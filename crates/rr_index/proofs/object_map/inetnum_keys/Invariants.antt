use Rattle.std.proofs.Common.{◌≡◌, [], take}
use Rattle.std.specs.BTreeSet.{contains}
use Rattle.rr_object.specs.declared.key.Key.{Key}
use Rattle.rr_object.specs.KeyOrders.{key_cmp}
use Rattle.rr_index.specs.ChosenKeyParts.{is_chosen}
use Rattle.rr_index.proofs.object_map.inetnum_keys.Given as goal

abbrev pub invariant-loop-span : goal.invariant-loop-span
invariant-loop-span l = (k : Key) → contains key_cmp l.keys k ≡ is_chosen
    (take l.span-index l.spans) [] k
