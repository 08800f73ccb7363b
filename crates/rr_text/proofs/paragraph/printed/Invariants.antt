use Rattle.std.proofs.Common.{◌≡◌, take}
use Rattle.std.specs.List.{flat_map}
use Rattle.rr_text.specs.CanonicalText.{field_text}
use Rattle.rr_text.proofs.paragraph.printed.Given as goal

abbrev pub invariant-loop-attribute : goal.invariant-loop-attribute
invariant-loop-attribute l = l.text.items ≡ flat_map field_text
    (take l.attribute-index l.attributes)
