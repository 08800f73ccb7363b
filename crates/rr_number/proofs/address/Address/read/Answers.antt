-- What the reader computes is what the grammar spells.
use Rattle.std.proofs.Common.{◌∙◌, sym}
use Rattle.rr_number.proofs.AddressLemmas.{address_of-spelled, address_of-read}
use Rattle.rr_number.proofs.Choices.{IfSome-each}
use Rattle.rr_number.proofs.address.Address.read.Goals as goal

pub returns : goal.returns
returns c = record {
  found = IfSome-each _ _ (λ address is. address_of-spelled _ address
      (sym c.read_address.ensures ∙ is));
  only = λ address spelled. c.read_address.ensures ∙ address_of-read _ address spelled;
  exact = c.read_address.ensures;
}
