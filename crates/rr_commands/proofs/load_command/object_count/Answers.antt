use Rattle.std.proofs.Common.{◌∙◌, ap, length, sym}
use Rattle.std.proofs.lemmas.List.{length-map}
use Rattle.rr_commands.proofs.load_command.object_count.Goals as goal

pub returns : goal.returns
returns c =
    ap length c.as_slice.ensures.value
    ∙ (sym (length-map c.in_ok-objects.objects.items (λ object. object.now)) ∙ ap length
    c.in_ok-objects.ensures.all)
