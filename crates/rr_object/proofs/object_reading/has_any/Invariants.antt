use Rattle.std.proofs.Common.{◌≡◌, drop, map}
use Rattle.std.specs.List.{list_any}
use Rattle.rr_object.specs.Grants.{is_any}
use Rattle.rr_object.proofs.object_reading.has_any.Given as goal

-- the items passed so far are not the keyword
abbrev pub invariant-items : goal.invariant-items
invariant-items l = list_any is_any (map (λ item. item.now) (drop l.item-index l.listed))
    ≡ list_any is_any (map (λ item. item.now) l.listed)
