use Rattle.std.proofs.Common.{rules, ◌==◌, ◌∙◌}
use Rattle.std.proofs.lemmas.Iterator.Search.{all_from_yields_List}
use Rattle.std.proofs.lemmas.Iterator.Splits.{YieldsList-from_slice_split}
use Rattle.rr_object.specs.KeyParts.{is_old_component}
use Rattle.rr_object.proofs.OldNames.{each_number}
use Rattle.rr_object.proofs.key_print.numbers_have_two_octets.Goals as goal

pub returns : goal.returns
returns c =
    all_from_yields_List is_old_component _ _ _ c.all.ensures.ran
    (YieldsList-from_slice_split _ (λ b. b == 58) c.args.name.now c.split.ensures.rest
    c.split.ensures.done c.split.ensures.closure (λ x b q k. search rules))
    (λ x b q k. search rules)
    ∙ each_number c.args.name.now
