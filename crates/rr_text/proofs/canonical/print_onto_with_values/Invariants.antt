use Rattle.std.proofs.Common.{◌≡◌, ◌++◌, map}
use Rattle.std.specs.Io.{StartsWith}
use Rattle.rr_text.specs.CanonicalText.{canonical}
use Rattle.rr_text.specs.Fields.{with_value}
use Rattle.rr_text.proofs.canonical.print_onto_with_values.Given as goal

abbrev pub invariant-loop-attribute : goal.invariant-loop-attribute
invariant-loop-attribute l =
    (l.out.items ++ canonical (map (with_value l.name l.line) l.attribute-iterator)
    ≡ l.initial.out.items ++ canonical (map (with_value l.name l.line) l.paragraph))
    × StartsWith l.out.items l.initial.out.items
