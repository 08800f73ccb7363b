-- The secrets that attributes give one after the other.
use Rattle.std.proofs.Common.{◌≡◌, Bool, true, false, List, [], ◌∷◌, ◌++◌, refl, cond}
use Rattle.std.specs.Prelude.{map}
use Rattle.rr_text.specs.Fields.{Field}
use Rattle.rr_submission.specs.SubmissionTexts.{is_password, secret_of, secrets_of}

given_or_not : (b : Bool) (x : Field) (xs : List Field) →
    map secret_of (cond b (x ∷ xs) xs) ≡ map secret_of (cond b (x ∷ []) []) ++ map secret_of xs
given_or_not true x xs = refl
given_or_not false x xs = refl

-- an attribute and those after it
pub secrets_of-prefix : (x : Field) (xs : List Field) → secrets_of (x ∷ xs) ≡ secrets_of (x ∷ [])
    ++ secrets_of xs
secrets_of-prefix x xs = given_or_not (is_password x) x _
