use Rattle.rr_bytes.proofs.LetterCaseLemmas.{same_in_lower_case, same_letters}
use Rattle.rr_bytes.proofs.letter_case.is_keyword.Goals as goal

pub returns-clause-value : goal.returns-clause-value
returns-clause-value c = same_in_lower_case c.args.text.now c.args.word.now
    c.eq_ignore_ascii_case.result c.eq_ignore_ascii_case.ensures.test

pub returns-clause-upper : goal.returns-clause-upper
returns-clause-upper c = same_letters c.args.text.now c.args.word.now c.eq_ignore_ascii_case.result
    c.eq_ignore_ascii_case.ensures.test
