use Rattle.std.proofs.Common.{rules, tests}
use Rattle.std.proofs.lemmas.Iterator.Consumers.{YieldsList-from_first}
use Rattle.std.proofs.lemmas.Iterator.Search.{all_from_yields_List}
use Rattle.rr_submission.specs.SubmissionTexts.{is_password}
use Rattle.rr_submission.proofs.submission_text.is_secrets_alone.Goals as goal

pub returns : goal.returns
returns c =
    all_from_yields_List is_password _ _ _ c.all.ensures.ran
    (YieldsList-from_first (λ field. field) (λ fields. fields) c.args.paragraph.now
    c.attributes.ensures.value) (λ x b q k. search (rules, tests))
