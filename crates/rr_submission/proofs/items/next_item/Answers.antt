-- Paragraphs of passwords are passed up to one that is an item, or to the end.
use Rattle.std.proofs.Common.{◌∙◌, ◌++◌, refl, sym, arith}
use Rattle.std.proofs.lemmas.Result.{err_from_is_err_and}
use Rattle.rr_io.specs.declared.receiving.ReadEnd.TheVariants.{Whole}
use Rattle.rr_submission.specs.SubmissionItems.AreItems.{requested, unread_for_memory}
use Rattle.rr_submission.proofs.Passing.{passing_none, passing_more, passing_item, passing_end}
use Rattle.rr_submission.proofs.Passing.{passing_fault, passing_faulty}
use Rattle.rr_submission.proofs.items.next_item.Goals as goal

pub paragraphs-init : goal.paragraphs-init
paragraphs-init g c = record {
  passing = λ start given has. passing_none _ start _ _ given _ has;
  nearer = omega arith;
  aside = refl;
}

pub returns-in-Ok-None-clause-finds : goal.returns-in-Ok-None-clause-finds
returns-in-Ok-None-clause-finds g c = λ start given has.
    let so = c.paragraphs.invariant.passing start given has in
    let next = rw c.in-Ok-None.field-0-is at (c.in-Ok-None.ensures.given start (given ++ so.added)
    so.has) in
    passing_end _ start _ _ c.paragraphs.paragraphs given _ _ Whole so next.1

pub returns-in-Err-add_secrets-clause-finds : goal.returns-in-Err-add_secrets-clause-finds
returns-in-Err-add_secrets-clause-finds g c = λ start given has.
    let so = c.paragraphs.invariant.passing start given has in
    let next = rw c.in-Ok-Some.field-0-is at (c.in-Ok-Some.ensures.given start (given ++ so.added)
    so.has) in
    let same = c.in-Err-add_secrets.ensures.err in
    rw (same, c.unread.ensures) (passing_item _ start _ _ c.paragraphs.paragraphs _ given _ _
    c.paragraphs.secrets _ _ so next (λ more items h. unread_for_memory _ h))

pub returns-then-not-is_secrets_alone-clause-finds :
    goal.returns-then-not-is_secrets_alone-clause-finds
returns-then-not-is_secrets_alone-clause-finds g c = λ start given has.
    let so = c.paragraphs.invariant.passing start given has in
    let next = rw c.in-Ok-Some.field-0-is at (c.in-Ok-Some.ensures.given start (given ++ so.added)
    so.has) in
    let same = c.in-Ok.ensures.ok in
    rw same (passing_item _ start _ _ c.paragraphs.paragraphs _ given _ _ _ _ c.read.result so next
    (λ more items h. requested c.read.result (sym c.is_secrets_alone.ensures
    ∙ c.if-not-is_secrets_alone.true) c.read.ensures h))

pub paragraphs-preserved : goal.paragraphs-preserved
paragraphs-preserved g c =
    let nearer = rw c.in-Ok-Some.field-0-is at c.in-Ok-Some.ensures.nearer in
    let same = c.in-Ok.ensures.ok in
    record {
      passing = λ start given has.
          let so = c.paragraphs.invariant.passing start given has in
          let next = rw c.in-Ok-Some.field-0-is at
          (c.in-Ok-Some.ensures.given start (given ++ so.added) so.has) in
          rw same (passing_more _ start _ _ c.paragraphs.paragraphs _ given _ _ _ so next
          (sym c.is_secrets_alone.ensures ∙ c.if-not-is_secrets_alone.false));
      nearer = omega (arith, nearer, c.paragraphs.invariant.nearer);
      aside = c.next.ensures.aside ∙ c.paragraphs.invariant.aside;
    }

pub returns-in_err-text_code-in-Err-clause-finds : goal.returns-in_err-text_code-in-Err-clause-finds
returns-in_err-text_code-in-Err-clause-finds g c = λ start given has.
    let so = c.paragraphs.invariant.passing start given has in
    let exit = err_from_is_err_and c.from_residual.result c.from_residual.ensures.1 in
    rw (exit.1, exit.2) (passing_fault _ start _ _ c.paragraphs.paragraphs _ given _ _
    c.in-Err.fault c.in_err-text_code-in-Err.field-0.0 so
    (c.in-Err.ensures.given start (given ++ so.added) so.has)
    (sym c.text_code.ensures ∙ c.in_err-text_code-in-Err.was))

pub returns-in-Err-clause-finds : goal.returns-in-Err-clause-finds
returns-in-Err-clause-finds g c = λ start given has.
    let so = c.paragraphs.invariant.passing start given has in
    rw c.unread-in-Err.ensures (passing_faulty _ start _ _ c.paragraphs.paragraphs _ given _ _
    c.in-Err.fault c.in_ok-text_code-in-Err.field-0 so
    (c.in-Err.ensures.given start (given ++ so.added) so.has)
    (sym c.text_code.ensures ∙ c.in_ok-text_code-in-Err.was))
