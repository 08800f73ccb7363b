-- What the added rows of an object do to a map of objects: for `Store::add`.
use Rattle.std.specs.Prelude.{◌≡◌, None}
use Rattle.std.specs.FinMap.{FinMap, get, insert}
use Rattle.sqlite.specs.Effect.{Database}
use Rattle.rr_object.specs.declared.key.Key.{Key}
use Rattle.rr_object.specs.KeyOrders.{key_cmp}
use Rattle.rr_object.specs.Objects.{Obj}
use Rattle.rr_store.specs.Maps.{HasRows}

-- where the tables hold a finite map of objects with none under this key, they hold it with the
-- object under it after the change
abbrev pub AddsTo : Key → Obj → Database → Database → Type 0
AddsTo key object old new = (objects : FinMap key_cmp Obj) → HasRows objects old
    → get objects key ≡ None → HasRows (insert objects key object) new
