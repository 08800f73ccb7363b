-- Objects by key, as the registry that they are.
use Rattle.std.specs.Prelude.{◌≡◌, true}
use Rattle.std.specs.BTreeMap.{BTreeMap}
use Rattle.std.specs.FinMap.{from_sorted, is_sorted}
use Rattle.rr_object.specs.declared.key.Key.{Key}
use Rattle.rr_object.specs.KeyOrders.{key_cmp}
use Rattle.rr_object.specs.Objects.{Obj}
use Rattle.rr_auth.specs.Registries.{Reg}

-- The registry of the entries of a map.
abbrev pub registry_of : BTreeMap Key Obj → Reg
registry_of m = from_sorted m.entries

-- The keys of a map's entries strictly rise (profile).
abbrev pub IsRising : BTreeMap Key Obj → Type 0
IsRising m = is_sorted key_cmp m.entries ≡ true
