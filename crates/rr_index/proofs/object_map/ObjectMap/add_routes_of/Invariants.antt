use Rattle.std.proofs.Common.{◌≡◌, ◌&&◌, ◌||◌, [], ◌∷◌}
use Rattle.std.specs.BTreeSet.{contains}
use Rattle.std.specs.FinMap.{contains_key}
use Rattle.rr_number.specs.Prefixes.{span_of}
use Rattle.rr_object.specs.declared.key.Key.{Key}
use Rattle.rr_object.specs.KeyOrders.{key_cmp}
use Rattle.rr_index.specs.ChosenKeyParts.{is_chosen}
use Rattle.rr_index.proofs.Choices.{is_at_some}
use Rattle.rr_index.proofs.object_map.ObjectMap.add_routes_of.Given as goal

-- the keys that are there and those to come are all
abbrev pub invariant-loop-key : goal.invariant-loop-key
invariant-loop-key l =
    (k : Key) → (contains key_cmp l.keys k || is_at_some k l.key-iterator)
    ≡
    (contains key_cmp l.fn.keys k || (contains_key l.self k && is_chosen []
    (span_of l.fn.prefix ∷ []) k))
