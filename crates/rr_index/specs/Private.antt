-- What private functions of the indexes promise each other. No public clause cites these.
use Rattle.std.specs.Prelude.{◌≡◌, ℕ, Bool, true, false, not, ◌&&◌, Some, Result, OnOk, OnErr}
use Rattle.std.specs.FinMap.{contains_key, get, insert, remove}
use Rattle.std.specs.Ordering.{is_le, is_lt}
use Rattle.rr_number.specs.Addresses.{greatest_address}
use Rattle.rr_number.specs.Prefixes.{PrefixParts, masked}
use Rattle.rr_number.specs.Spans.{Ends}
use Rattle.rr_object.specs.declared.key.Key.{Key}
use Rattle.rr_object.specs.declared.key.Key.TheVariants.{AsBlock, Inetnum, Route}
use Rattle.rr_object.specs.Objects.{Obj}
use Rattle.rr_auth.specs.Registries.{Reg, keys_cross}
use Rattle.rr_cover.specs.SpanMaps.{SpanMap, crosses_some}
use Rattle.rr_index.specs.OriginIndexes.{origin_cmp}

-- No registered inetnum or as-block crosses the key (profile).
pub record IsCrossedByNone (r : Reg) (k : Key) : Type 0 where
  pub apart : (l : Key) (x : Obj) → get r l ≡ Some x → keys_cross l k ≡ false

-- The route lies from the least prefix of the origin to its greatest (profile).
abbrev pub is_of_origin : ℕ → ℕ × PrefixParts → Bool
is_of_origin origin route = is_le (origin_cmp (origin, masked 0 0) route)
    && not (is_lt (origin_cmp (origin, masked greatest_address 32) route))

-- The key is that of an inetnum or an as-block, and its span crosses one that is held of its class.
abbrev pub is_crossed : SpanMap (Unit {0}) → SpanMap (Unit {0}) → Key → Bool
is_crossed inetnums blocks (Inetnum s) = crosses_some inetnums s
is_crossed inetnums blocks (AsBlock s) = crosses_some blocks s
is_crossed inetnums blocks _ = false

-- Of a route's key it is said truly whether another route of its prefix is registered; of another
-- key nothing is said.
abbrev pub IsTold : Reg → Key → Bool → Type 0
IsTold r (Route p n) true = (m : ℕ) × (contains_key (remove r (Route p n)) (Route p m) ≡ true)
IsTold r (Route p n) false = (m : ℕ) → contains_key (remove r (Route p n)) (Route p m) ≡ false
IsTold r _ told = Unit {0}

-- The object is put under its key in the registry; or the registry stays, where memory runs out.
pub record PutsObject {X E : Type 0} (old : Reg) (o : Obj) (new : Reg)
    (result : Result X E) : Type 0 where
  pub ok : OnOk result (new ≡ insert old o.key o)
  pub err : OnErr result (new ≡ old)

-- The span is added to those that are held; or nothing changes, where memory runs out.
pub record HoldsSpan {X E : Type 0} (old : SpanMap (Unit {0})) (s : Ends)
    (new : SpanMap (Unit {0})) (result : Result X E) : Type 0 where
  pub ok : OnOk result (new ≡ insert old s tt)
  pub err : OnErr result (new ≡ old)
