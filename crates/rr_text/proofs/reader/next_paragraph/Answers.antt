-- The first entry is that of the first block.
use Rattle.std.proofs.Common.{◌∙◌, ◌∷◌, ap, drop}
use Rattle.std.proofs.lemmas.Result.{err_from_is_err_and}
use Rattle.rr_text.specs.Entries.{entries}
use Rattle.rr_text.proofs.EntryLemmas.{entries_empty, entries_more, entries_fault, entries_some}
use Rattle.rr_text.proofs.reader.next_paragraph.Goals as goal

pub returns-in_err-paragraph-in-Some-clause-fault :
    goal.returns-in_err-paragraph-in-Some-clause-fault
returns-in_err-paragraph-in-Some-clause-fault c =
    let p = err_from_is_err_and c.from_residual.result c.from_residual.ensures.1 in
    rw (p.1, p.2) (λ other. entries_fault _ _ _ _ c.in-Some.ensures.found.3
    (c.in_err-paragraph-in-Some.ensures.fault other))

pub returns-in_err-paragraph-in-Some-clause-memory :
    goal.returns-in_err-paragraph-in-Some-clause-memory
returns-in_err-paragraph-in-Some-clause-memory c =
    let p = err_from_is_err_and c.from_residual.result c.from_residual.ensures.1 in
    rw p.1 (entries_some _ _ _ c.in-Some.ensures.found.3)

pub returns-in-None-clause-none : goal.returns-in-None-clause-none
returns-in-None-clause-none c = λ _. entries_empty _ c.in-None.ensures.none

pub returns-in_ok-paragraph-in-Some-clause-found : goal.returns-in_ok-paragraph-in-Some-clause-found
returns-in_ok-paragraph-in-Some-clause-found c = record {
  first = entries_more _ _ _ c.in-Some.ensures.found.3
      ∙ ap (λ e. e ∷ entries (drop c.in-Some.place c.args.text.now))
      c.in_ok-paragraph-in-Some.ensures.found.2;
  place = c.in-Some.ensures.after;
  later = c.in-Some.ensures.found.0;
  within = c.in-Some.ensures.found.1;
  filled = c.in_ok-paragraph-in-Some.ensures.found.0;
  fields = c.in_ok-paragraph-in-Some.ensures.found.1;
}
