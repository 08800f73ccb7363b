use Rattle.std.proofs.Common.{◌≡◌, ◌++◌, drop}
use Rattle.std.specs.List.{flat_map}
use Rattle.rr_sets.specs.Lists.{lent}
use Rattle.rr_answer.specs.Founds.{form_text}
use Rattle.rr_answer.specs.Texts.{public_text}
use Rattle.rr_answer.proofs.form.forms.Given as goal

-- the texts of the forms so far and of the objects to come are all
abbrev pub invariant-objects : goal.invariant-objects
invariant-objects l =
    flat_map form_text l.forms.items ++ flat_map (λ object. public_text object.now)
    (drop l.object-index l.objects)
    ≡ flat_map public_text (lent l.objects)
