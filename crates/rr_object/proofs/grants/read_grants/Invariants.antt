use Rattle.std.proofs.Common.{◌≡◌, ◌++◌, drop, map}
use Rattle.std.specs.Option.{option_map}
use Rattle.rr_object.specs.Grants.{grants_after, grants_of}
use Rattle.rr_object.proofs.grants.read_grants.Given as goal

-- what was read so far, and the entries of the items that are left
abbrev pub invariant-items : goal.invariant-items
invariant-items l =
    option_map (λ grants. l.read.items ++ grants)
    (grants_after l.open_grant (map (λ item. item.now) (drop l.item-index l.listed)))
    ≡ grants_of (map (λ item. item.now) l.listed)
