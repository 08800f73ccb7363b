use Rattle.std.proofs.Common.{◌≡◌, ◌++◌}
use Rattle.rr_object.specs.Items.{values_of}
use Rattle.rr_object.proofs.lists.values_of.Given as goal

-- the values read so far, and those that are left to read
abbrev pub invariant-loop-attribute : goal.invariant-loop-attribute
invariant-loop-attribute l = l.values.items ++ values_of l.name l.attribute-iterator ≡ values_of
    l.name l.paragraph
