-- What the private functions of src promise each other. No public clause cites these.
use Rattle.std.specs.Prelude.{◌≡◌, ℕ, Bool, true, false, not, ◌&&◌, List, Option, None}
use Rattle.std.specs.Prelude.{◌||◌, slice_get}
use Rattle.std.specs.BTreeMap.{BTreeMap}
use Rattle.std.specs.BTreeSet.{BTreeSet}
use Rattle.std.specs.List.{position_or_len}
use Rattle.std.specs.Option.{option_map_or}
use Rattle.std.specs.Ordering.{eq_by_cmp, is_gt}
use Rattle.std.specs.Str.{bytes_eq}
use Rattle.rr_number.specs.Spans.{Ends}
use Rattle.rr_object.specs.declared.class.Class.{Class}
use Rattle.rr_object.specs.declared.class.Class.TheVariants as class
use Rattle.rr_object.specs.declared.key.Key.{Key}
use Rattle.rr_object.specs.declared.key.Key.TheVariants as key
use Rattle.rr_object.specs.KeyOrders.{key_cmp}
use Rattle.rr_object.specs.Objects.{Obj}
use Rattle.rr_auth.specs.Closest.{inetnum_span, block_span, route_span}
use Rattle.rr_book.specs.SetIndexes.{stands_under}

-- The first place among objects whose key is not below a given one, or their number if there is
-- none.
abbrev pub place_of : Key → List Obj → ℕ
place_of k os = position_or_len (λ o. not (is_gt (key_cmp k o.key))) os

-- The object at a place has the key.
abbrev pub stands_at : Key → List Obj → ℕ → Bool
stands_at k os i = option_map_or (λ x. eq_by_cmp key_cmp k x.key) (slice_get os i) false

-- The span of a key, where the key is of the class and this is as-block, inetnum or route.
abbrev pub span_in : Class → Key → Option Ends
span_in class.Mntner = λ k. None
span_in class.AsBlock = block_span
span_in class.AutNum = λ k. None
span_in class.Inetnum = inetnum_span
span_in class.Route = route_span
span_in class.AsSet = λ k. None
span_in class.RouteSet = λ k. None

-- A key is that of an as-block or an inetnum. Keys of other classes cross none (profile).
abbrev pub is_span : Key → Bool
is_span (key.AsBlock s) = true
is_span (key.Inetnum s) = true
is_span _ = false

-- The key is added under the set of the name, and nothing else changes.
abbrev pub HasAddedKey : List ℕ → Key → BTreeMap (List ℕ) (BTreeSet Key)
    → BTreeMap (List ℕ) (BTreeSet Key) → Type 0
HasAddedKey name key old new = (other : List ℕ) (k : Key) → stands_under new other k
    ≡ (stands_under old other k || (bytes_eq name other && eq_by_cmp key_cmp key k))

-- The key is taken from under the set of the name, and nothing else changes.
abbrev pub HasTakenKey : List ℕ → Key → BTreeMap (List ℕ) (BTreeSet Key)
    → BTreeMap (List ℕ) (BTreeSet Key) → Type 0
HasTakenKey name key old new = (other : List ℕ) (k : Key) → stands_under new other k
    ≡ (stands_under old other k && not (bytes_eq name other && eq_by_cmp key_cmp key k))
