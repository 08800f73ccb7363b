-- What the reader computes is what the grammar spells.
use Rattle.std.proofs.Common.{◌∙◌, sym}
use Rattle.rr_number.proofs.Choices.{IfSome-each}
use Rattle.rr_number.proofs.PrefixLemmas.{prefix_of-spelled, prefix_of-read}
use Rattle.rr_number.proofs.prefix.Prefix.read.Goals as goal

pub returns : goal.returns
returns c = record {
  found =
      IfSome-each _ _ (λ prefix is. prefix_of-spelled _ prefix (sym c.read_prefix.ensures ∙ is));
  only = λ prefix spelled. c.read_prefix.ensures ∙ prefix_of-read _ prefix spelled;
  exact = c.read_prefix.ensures;
}
