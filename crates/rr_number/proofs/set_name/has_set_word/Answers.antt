use Rattle.std.proofs.Common.{rules, ◌==◌}
use Rattle.std.proofs.lemmas.Iterator.Search.{any_from_yields_List}
use Rattle.std.proofs.lemmas.Iterator.Splits.{YieldsList-from_slice_split}
use Rattle.rr_number.specs.SetNames.{is_set_word}
use Rattle.rr_number.proofs.set_name.has_set_word.Goals as goal

pub returns : goal.returns
returns c =
    any_from_yields_List (is_set_word c.args.kind) _ _ _ c.any.ensures.ran
    (YieldsList-from_slice_split _ (λ b. b == 58) c.args.bytes.now c.split.ensures.rest
    c.split.ensures.done c.split.ensures.closure (λ x b q k. search rules))
    (λ x b q k. search rules)
