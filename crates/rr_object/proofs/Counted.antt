-- How often attributes stand, from what was read of them.
use Rattle.std.proofs.Common.{◌≡◌, ℕ, ◌==◌, Bool, true, false, not, List, length, refl, ap, ◌∙◌}
use Rattle.std.proofs.lemmas.List.{length-map}
use Rattle.std.proofs.lemmas.List.Sums.{length-filter}
use Rattle.rr_text.specs.Fields.{Field, has_name}
use Rattle.rr_object.specs.declared.kind.Kind.TheVariants.{Auth}
use Rattle.rr_bytes.specs.Parts.{is_filled}
use Rattle.rr_object.specs.Items.{values_of}
use Rattle.rr_object.specs.Kinds.{kind_name}
use Rattle.rr_object.specs.Readings.{count_named, items_of}

-- an attribute has as many values as it stands times
values_counted : (name : List ℕ) (fields : List Field) → length (values_of name fields)
    ≡ count_named name fields
values_counted name fields = length-map _ _ ∙ length-filter (has_name name) fields

twice_not : (b : Bool) → not (not b) ≡ b
twice_not true = refl
twice_not false = refl

-- a maintainer has no `auth` where no attribute has that name
pub no_auth : (fields : List Field) → not (is_filled (items_of Auth fields))
    ≡ (count_named (kind_name Auth) fields == 0)
unfolding items_of
no_auth fields =
    twice_not (length (values_of (kind_name Auth) fields) == 0) ∙ ap (λ n. n == 0)
    (values_counted (kind_name Auth) fields)
