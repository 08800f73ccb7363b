use Rattle.std.proofs.Common.{ap}
use Rattle.rr_text.specs.CanonicalText.{canonical}
use Rattle.rr_text.specs.FieldEquality.{fields_eq-Decides}
use Rattle.rr_text.proofs.RoundTrip.{canonical_determines}
use Rattle.rr_text.proofs.laws.paragraphs_are_equal_as_printed.Goals as goal

pub returns : goal.returns
returns c = λ a b fa fb. (
  (λ e. ap canonical ((fields_eq-Decides a b).0 e)),
  (λ e. (fields_eq-Decides a b).1 (canonical_determines a b fa fb e)),
)
