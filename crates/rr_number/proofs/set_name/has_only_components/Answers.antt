use Rattle.std.proofs.Common.{rules, ◌==◌}
use Rattle.std.proofs.lemmas.Iterator.Search.{all_from_yields_List}
use Rattle.std.proofs.lemmas.Iterator.Splits.{YieldsList-from_slice_split}
use Rattle.rr_number.specs.SetNames.{is_component}
use Rattle.rr_number.proofs.set_name.has_only_components.Goals as goal

pub returns : goal.returns
returns c =
    all_from_yields_List (is_component c.args.kind) _ _ _ c.all.ensures.ran
    (YieldsList-from_slice_split _ (λ b. b == 58) c.args.bytes.now c.split.ensures.rest
    c.split.ensures.done c.split.ensures.closure (λ x b q k. search rules))
    (λ x b q k. search rules)
