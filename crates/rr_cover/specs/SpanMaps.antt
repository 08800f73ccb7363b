-- Maps from spans to values: which spans of a map cross or cover a span, which is closest to it,
-- and what insertions and removals leave. For `PrefixTree`, `SpanNest`, and the crates that keep
-- them.
use Rattle.std.specs.Prelude.{◌≡◌, ◌↔◌, Bool, true, false, ◌≤◌, List, filter, Option, Some}
use Rattle.std.specs.Prelude.{Result, Err, IfOk, IfErr, OnOk, OnErr}
use Rattle.std.specs.List.{list_any}
use Rattle.std.specs.FinMap.{FinMap, get, contains_key, keys, insert, remove}
use Rattle.rr_number.specs.Spans.{Ends, covers, crosses, size, span_cmp}
use Rattle.rr_cover.specs.InsertFaults.{value_of}
use Rattle.rr_cover.specs.declared.insert_fault.InsertFault.{InsertFault}
use Rattle.rr_cover.specs.declared.insert_fault.InsertFault.TheVariants.{Overlap}

-- What a collection of spans holds: one value at each of finitely many spans.
abbrev pub SpanMap : Type 0 → Type 0
SpanMap T = FinMap span_cmp T

-- A span crosses a map where it crosses one of the map's spans (profile).
abbrev pub crosses_some : {T : Type 0} → SpanMap T → Ends → Bool
crosses_some m s = list_any (λ t. crosses t s) (keys m)

-- No two spans of a map cross (profile).
pub record NoneCross {T : Type 0} (m : SpanMap T) : Type 0 where
  pub apart :
      (s t : Ends) → contains_key m s ≡ true → contains_key m t ≡ true
      → crosses s t ≡ false

-- The closest span t to s, with its value: it covers s, and no other that covers s is smaller. An
-- equal span counts (RFC 2725, 9).
pub record IsClosest {T : Type 0} (m : SpanMap T) (s t : Ends) (value : T) : Type 0 where
  pub held : get m t ≡ Some value
  pub above : covers t s ≡ true
  pub least : (u : Ends) → contains_key m u ≡ true → covers u s ≡ true → size t ≤ size u

-- No span of a map covers s.
pub record NoneCovers {T : Type 0} (m : SpanMap T) (s : Ends) : Type 0 where
  pub none : (t : Ends) → contains_key m t ≡ true → covers t s ≡ false

-- The spans of a map that cover s, in order of first, then last number. An equal one counts
-- (profile).
abbrev pub covering : {T : Type 0} → SpanMap T → Ends → List Ends
covering m s = filter (λ t. covers t s) (keys m)

-- Where it is `Ok`, the value is put at the span, what stands at other spans stays, and what stood
-- there, if anything did, comes back. Where it is `Err`, nothing changes (profile).
pub record Inserts {T E : Type 0} (old : SpanMap T) (s : Ends) (value : T) (new : SpanMap T)
    (result : Result (Option T) E) : Type 0 where
  pub stood : IfOk result (λ before. before ≡ get old s)
  pub ok : OnOk result (new ≡ insert old s value)
  pub err : OnErr result (new ≡ old)

-- Where it is `Ok`, the value is put at the span, what stands at other spans stays, and what stood
-- there, if anything did, comes back. Where it is `Err`, nothing changes, and the value comes back
-- with the fault. This is `Overlap` exactly where the span crosses one that is held, and else
-- `Memory` (profile).
pub record InsertsApart {T : Type 0} (old : SpanMap T) (s : Ends) (value : T) (new : SpanMap T)
    (result : Result (Option T) (InsertFault T)) : Type 0 where
  pub inserts : Inserts old s value new result
  pub overlap : (result ≡ Err (Overlap value)) ↔ (crosses_some old s ≡ true)
  pub back : IfErr result (λ fault. value_of fault ≡ value)

-- What stood at the span, if anything did, is taken out of the map, and comes back; what stands at
-- other spans stays (profile).
pub record Removes {T : Type 0} (old : SpanMap T) (s : Ends) (new : SpanMap T)
    (result : Option T) : Type 0 where
  pub value : result ≡ get old s
  pub rest : new ≡ remove old s
