-- What the reader computes is what the grammar spells.
use Rattle.std.proofs.Common.{◌∙◌, sym}
use Rattle.rr_number.proofs.Choices.{IfSome-each}
use Rattle.rr_number.proofs.RangedLemmas.{ranged_of-spelled, ranged_of-read}
use Rattle.rr_number.proofs.range.read_ranged.Goals as goal

pub returns : goal.returns
returns c = record {
  found = IfSome-each _ _ (λ ranged is. ranged_of-spelled _ ranged (sym c.read_both.ensures ∙ is));
  only = λ ranged spelled. c.read_both.ensures ∙ ranged_of-read _ ranged.0 ranged.1 spelled;
  exact = c.read_both.ensures;
}
