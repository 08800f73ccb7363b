use Rattle.std.proofs.Common.{◌==◌, ◌∙◌, ℕ, rules, tests}
use Rattle.std.proofs.lemmas.Iterator.{YieldsList-from_slice}
use Rattle.std.proofs.lemmas.Iterator.Search.{all_from_yields_List}
use Rattle.std.specs.Char.{to_ascii_lowercase}
use Rattle.rr_text.proofs.KeptLemmas.{lower_same}
use Rattle.rr_text.proofs.comparing.is_lower.Goals as goal

pub returns : goal.returns
returns c =
    all_from_yields_List (λ (b : ℕ). to_ascii_lowercase b == b) _ _ _ c.all.ensures.ran
    (YieldsList-from_slice c.args.name.now cc) (λ x b q k. search (rules, tests))
    ∙ lower_same c.args.name.now
