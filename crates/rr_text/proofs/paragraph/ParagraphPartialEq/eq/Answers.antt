use Rattle.std.proofs.Common.{◌∙◌}
use Rattle.rr_text.specs.FieldEquality.{fields_eq-Decides}
use Rattle.rr_text.proofs.KeptLemmas.{eq_kept}
use Rattle.rr_text.proofs.paragraph.ParagraphPartialEq.eq.Goals as goal

pub returns-clause-value : goal.returns-clause-value
returns-clause-value c = rw (← c.self.view_is, ← c.other.view_is)
    (c.eq.ensures ∙ eq_kept _ _ c.self.invariant c.other.invariant)

pub returns-clause-same : goal.returns-clause-same
returns-clause-same c =
    rw (
      ← c.self.view_is,
      ← c.other.view_is,
      c.eq.ensures,
      eq_kept _ _ c.self.invariant
          c.other.invariant,
    ) (fields_eq-Decides _ _)
