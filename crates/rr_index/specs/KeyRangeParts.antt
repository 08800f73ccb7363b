-- What private functions that look for the keys between two others promise each other. No public
-- clause cites these.
use Rattle.std.specs.Prelude.{Bool, not, ◌&&◌}
use Rattle.std.specs.Ordering.{is_le, is_lt}
use Rattle.rr_object.specs.declared.key.Key.{Key}
use Rattle.rr_object.specs.KeyOrders.{key_cmp}

-- The key lies from one key to another, in the order of class and key, and both ends count
-- (profile).
abbrev pub lies_between : Key → Key → Key → Bool
lies_between first last k = is_le (key_cmp first k) && not (is_lt (key_cmp last k))
