use Rattle.rr_number.proofs.AddressLemmas.{IsAddress-text}
use Rattle.rr_number.proofs.laws.printed_addresses_are_read.Goals as goal

pub returns : goal.returns
returns c = IsAddress-text
