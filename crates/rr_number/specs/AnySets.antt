-- The names `AS-ANY` and `RS-ANY`, which no object has for its name: for names of sets and their
-- members.
use Rattle.std.specs.Prelude.{ℕ, List, codes}

-- The name of the set of all ASes (RFC 2622, 5).
abbrev pub as_any : List ℕ
as_any = codes "AS-ANY"

-- The name of the set of all routes (RFC 2622, 5).
abbrev pub rs_any : List ℕ
rs_any = codes "RS-ANY"
