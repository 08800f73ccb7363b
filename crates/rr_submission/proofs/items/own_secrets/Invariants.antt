use Rattle.std.proofs.Common.{◌≡◌, ◌++◌}
use Rattle.rr_submission.specs.SubmissionTexts.{secrets_of}
use Rattle.rr_submission.proofs.items.own_secrets.Given as goal

abbrev pub invariant-attributes : goal.invariant-attributes
invariant-attributes l = l.own ++ secrets_of l.attribute-iterator ≡ secrets_of l.paragraph
