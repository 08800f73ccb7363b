use Rattle.std.proofs.Common.{◌≡◌, ◌++◌, drop, map}
use Rattle.rr_object.specs.Items.{are_good, meant}
use Rattle.rr_object.proofs.item.read_items.Given as goal

-- what was read so far, and what the items that are left say
abbrev pub invariant-items : goal.invariant-items
invariant-items g l = record {
  good : are_good g.R.ReadItem.item_of (map (λ item. item.now) (drop l.item-index l.listed))
      ≡ are_good g.R.ReadItem.item_of (map (λ item. item.now) l.listed);
  value : l.read.items ++ meant g.R.ReadItem.item_of
      (map (λ item. item.now) (drop l.item-index l.listed)) ≡ meant g.R.ReadItem.item_of
      (map (λ item. item.now) l.listed);
}
