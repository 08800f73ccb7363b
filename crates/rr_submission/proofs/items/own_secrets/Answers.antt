use Rattle.std.proofs.Common.{◌∙◌, ap, sym, append_assoc, ◌++◌, ◌∷◌, [], List, ℕ}
use Rattle.std.proofs.lemmas.List.{append-nil}
use Rattle.rr_submission.specs.SubmissionTexts.{secrets_of}
use Rattle.rr_submission.proofs.Giving.{secrets_of-prefix}
use Rattle.rr_submission.proofs.items.own_secrets.Goals as goal

pub attributes-preserved : goal.attributes-preserved
attributes-preserved c =
    let before = c.attributes.own in
    let added = secrets_of (c.in-Some.attribute ∷ []) in
    let later = secrets_of c.next.new.self in
    let next = ap secrets_of c.in-Some.ensures.steps ∙ secrets_of-prefix c.in-Some.attribute
    c.next.new.self in
    ap (λ (zs : List (List ℕ)). zs ++ later) c.in_ok-add_secret.ensures.ok
    ∙ (append_assoc before added later ∙ (ap (λ (zs : List (List ℕ)). before ++ zs) (sym next)
    ∙ c.attributes.invariant))

pub returns : goal.returns
returns c =
    sym (append-nil c.attributes.own) ∙ (ap (λ fields. c.attributes.own ++ secrets_of fields)
    (sym c.in-None.ensures.steps.0) ∙ c.attributes.invariant)
