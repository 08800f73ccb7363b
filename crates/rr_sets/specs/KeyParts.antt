-- The parts of keys that an expansion looks for: for `SetBook`, `direct` and `ranges`.
use Rattle.std.specs.Prelude.{ℕ, ◌==◌, Option, None, Some, if◌then◌else◌}
use Rattle.rr_number.specs.Prefixes.{PrefixParts}
use Rattle.rr_number.specs.Ranges.{RangeParts, bare}
use Rattle.rr_object.specs.declared.key.Key.{Key}
use Rattle.rr_object.specs.declared.key.Key.TheVariants.{AutNum, Route}

-- the number of an aut-num's key
abbrev pub number_of_key : Key → Option ℕ
number_of_key (AutNum n) = Some n
number_of_key _ = None

-- the origin of a route's key (RFC 2622, 4)
abbrev pub origin_of : Key → Option ℕ
origin_of (Route prefix origin) = Some origin
origin_of _ = None

-- the prefix of a route's key, where its origin is this one (RFC 2622, 4)
abbrev pub prefix_from : ℕ → Key → Option PrefixParts
prefix_from n (Route prefix origin) = if origin == n then Some prefix else None
prefix_from n _ = None

-- the range of a route's prefix alone
abbrev pub range_of_key : Key → Option RangeParts
range_of_key (Route prefix origin) = Some (bare prefix)
range_of_key _ = None
