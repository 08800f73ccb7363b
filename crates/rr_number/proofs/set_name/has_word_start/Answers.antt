use Rattle.std.proofs.Common.{rules, ◌==◌, nat_eq}
use Rattle.std.proofs.lemmas.Iterator.Search.{any_from_yields_List}
use Rattle.std.proofs.lemmas.Iterator.Splits.{YieldsList-from_slice_split}
use Rattle.std.specs.List.{starts_with}
use Rattle.rr_number.specs.SetNames.{word_start}
use Rattle.rr_number.proofs.set_name.has_word_start.Goals as goal

pub returns : goal.returns
returns c =
    any_from_yields_List (λ component. starts_with nat_eq component (word_start c.args.kind)) _ _ _
    c.any.ensures.ran
    (YieldsList-from_slice_split _ (λ b. b == 58) c.args.bytes.now c.split.ensures.rest
    c.split.ensures.done c.split.ensures.closure (λ x b q k. search rules))
    (λ x b q k. search rules)
