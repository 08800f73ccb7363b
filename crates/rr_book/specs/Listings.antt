-- Which inetnums and routes of a registry cover a span, and which lie inside it: for `covering` and
-- `inside` of books and registries, and for answers.
use Rattle.std.specs.Prelude.{Bool, false, List, filter, Option, None, Some}
use Rattle.std.specs.Option.{option_map_or}
use Rattle.std.specs.FinMap.{values}
use Rattle.rr_number.specs.Prefixes.{span_of}
use Rattle.rr_number.specs.Spans.{Ends, covers}
use Rattle.rr_object.specs.declared.key.Key.{Key}
use Rattle.rr_object.specs.declared.key.Key.TheVariants.{Inetnum, Route}
use Rattle.rr_object.specs.Objects.{Obj}
use Rattle.rr_auth.specs.Registries.{Reg}

-- The span of an inetnum, and that of a route's prefix; a key of another class has no addresses
-- (profile).
abbrev pub addresses : Key → Option Ends
addresses (Inetnum s) = Some s
addresses (Route p n) = Some (span_of p)
addresses _ = None

-- The object is an inetnum or a route whose addresses cover a span; equal ones do (profile).
abbrev pub covers_span : Ends → Obj → Bool
covers_span s o = option_map_or (λ t. covers t s) (addresses o.key) false

-- The object is an inetnum or a route whose addresses lie inside a span; equal ones do (profile).
abbrev pub lies_in : Ends → Obj → Bool
lies_in s o = option_map_or (λ t. covers s t) (addresses o.key) false

-- The inetnums and routes of a registry that cover a span, by class and key (profile).
abbrev pub covering : Reg → Ends → List Obj
covering r s = filter (covers_span s) (values r)

-- The inetnums and routes of a registry that lie inside a span, by class and key (profile).
abbrev pub inside : Reg → Ends → List Obj
inside r s = filter (lies_in s) (values r)
