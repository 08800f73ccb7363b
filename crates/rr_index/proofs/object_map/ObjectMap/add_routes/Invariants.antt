use Rattle.std.proofs.Common.{◌≡◌, ◌&&◌, ◌||◌, [], map, take}
use Rattle.std.specs.BTreeSet.{contains}
use Rattle.std.specs.FinMap.{contains_key}
use Rattle.rr_number.specs.Prefixes.{span_of}
use Rattle.rr_object.specs.declared.key.Key.{Key}
use Rattle.rr_object.specs.KeyOrders.{key_cmp}
use Rattle.rr_index.specs.ChosenKeyParts.{is_chosen}
use Rattle.rr_index.proofs.object_map.ObjectMap.add_routes.Given as goal

abbrev pub invariant-loop-prefix : goal.invariant-loop-prefix
invariant-loop-prefix l =
    (k : Key) → contains key_cmp l.keys k
    ≡
    (contains key_cmp l.fn.keys k || (contains_key l.self k && is_chosen []
    (map span_of (take l.prefix-index l.prefixes)) k))
