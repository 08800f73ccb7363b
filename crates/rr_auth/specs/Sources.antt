-- Registries of one source, and items that are read in it: for the law that such registries stay
-- so, and for the crates above, whose registries have one source.
use Rattle.std.specs.Prelude.{◌≡◌, ℕ, List, Some, Ok}
use Rattle.std.specs.FinMap.{get}
use Rattle.rr_object.specs.declared.key.Key.{Key}
use Rattle.rr_object.specs.KeyOrders.{IsKeyValue}
use Rattle.rr_object.specs.Objects.{Obj}
use Rattle.rr_object.specs.Readings.{object_of}
use Rattle.rr_auth.specs.declared.item.Item.{Item}
use Rattle.rr_auth.specs.declared.item.Item.TheVariants.{Submit, Delete}
use Rattle.rr_auth.specs.Registries.{Reg, Sound}

-- A registry is that of a source where it is sound, and each object is what its paragraph reads as
-- in that source (RFC 2622, 2; profile).
pub record IsRegistryOf (source : List ℕ) (r : Reg) : Type 0 where
  pub sound : Sound r
  pub read : (k : Key) (o : Obj) → get r k ≡ Some o → object_of o.paragraph source ≡ Ok o

-- An object as it is read in a source: what its paragraph reads as, with a well-formed key.
pub record IsReadObject (source : List ℕ) (o : Obj) : Type 0 where
  pub formed : IsKeyValue o.key
  pub read : object_of o.paragraph source ≡ Ok o

-- An item as it is read in a source: a submitted object is what its paragraph reads as, and its key
-- or the key to be deleted is well formed.
abbrev pub IsReadIn : List ℕ → Item → Type 0
IsReadIn source (Submit o) = IsReadObject source o
IsReadIn source (Delete k) = IsKeyValue k
