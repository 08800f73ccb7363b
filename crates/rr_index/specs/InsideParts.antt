-- What private functions that look for the objects inside a span promise each other. No public
-- clause cites these.
use Rattle.std.specs.Prelude.{ℕ, ◌-◌, ◌==◌, Bool, true, false}
use Rattle.rr_number.specs.AsNumbers.{greatest_as_number}
use Rattle.rr_number.specs.Prefixes.{masked, span_of}
use Rattle.rr_number.specs.Spans.{Ends, covers}
use Rattle.rr_object.specs.declared.key.Key.{Key}
use Rattle.rr_object.specs.declared.key.Key.TheVariants.{Inetnum, Route}

-- The key of the inetnum of one address.
abbrev pub inetnum_at : ℕ → Key
inetnum_at address = Inetnum (record { first = address; last = address })

-- A key that no route from an address on is below, and at most one route before the address is not
-- below. It is the least of all where the address is 0, which is told beside it, and else the last
-- of the address before.
abbrev pub routes_start : Bool → ℕ → Key
routes_start true address = Route (masked 0 0) 0
routes_start false address = Route (masked (address - 1) 32) greatest_as_number

-- What `routes_start` gives for an address, which it is told to be 0 or not.
abbrev pub routes_from : ℕ → Key
routes_from address = routes_start (address == 0) address

-- A key that no route up to an address is above.
abbrev pub routes_to : ℕ → Key
routes_to address = Route (masked address 32) greatest_as_number

-- The key is that of an inetnum inside a span.
abbrev pub is_inetnum_in : Ends → Key → Bool
is_inetnum_in s (Inetnum t) = covers s t
is_inetnum_in s _ = false

-- The key is that of a route inside a span.
abbrev pub is_route_in : Ends → Key → Bool
is_route_in s (Route p n) = covers s (span_of p)
is_route_in s _ = false
