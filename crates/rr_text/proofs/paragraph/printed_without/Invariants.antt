use Rattle.std.proofs.Common.{◌≡◌, ◌++◌, not, filter}
use Rattle.rr_text.specs.CanonicalText.{canonical}
use Rattle.rr_text.specs.Fields.{has_name}
use Rattle.rr_text.proofs.paragraph.printed_without.Given as goal

abbrev pub invariant-loop-attribute : goal.invariant-loop-attribute
invariant-loop-attribute l =
    l.text.items ++ canonical (filter (λ field. not (has_name l.name field)) l.attribute-iterator)
    ≡ canonical (filter (λ field. not (has_name l.name field)) l.paragraph)
