use Rattle.rr_number.proofs.ParentLemmas.{parent_parts}
use Rattle.rr_number.proofs.SetKinds.{components-read, kind_told, set_name_of-again}
use Rattle.rr_number.proofs.SetKinds.{set_name_of-case}
use Rattle.rr_number.proofs.laws.set_names_are_read_again.Goals as goal

pub returns : goal.returns
returns c = record {
  again = set_name_of-again;
  case_ignored = set_name_of-case;
  components = components-read;
  kinds = kind_told;
  parents = parent_parts;
}
