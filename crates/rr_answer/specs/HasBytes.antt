-- Each part of an answer has bytes: laws of the parts, with their proofs.
use Rattle.std.specs.Prelude.{codes}
use Rattle.std.proofs.Common.{ℕ, ◌<◌, List, ◌++◌, length, arith}
use Rattle.std.proofs.lemmas.List.{length-append}
use Rattle.rr_number.specs.Applied.{range_text}
use Rattle.rr_number.specs.AsNumbers.{as_number_text}
use Rattle.rr_number.specs.Ranges.{RangeParts}
use Rattle.rr_text.specs.CanonicalText.{canonical, ended}
use Rattle.rr_answer.specs.declared.form.Form.{Form}
use Rattle.rr_answer.specs.Founds.{form_text, shown}
use Rattle.rr_answer.specs.Texts.{missing_line, number_line, range_line}

pub line_has_bytes : (line : List ℕ) → 0 < length (ended line)
line_has_bytes line = rw length-append (omega arith)

pub number_has_bytes : (n : ℕ) → 0 < length (number_line n)
number_has_bytes n = line_has_bytes (as_number_text n)

pub range_has_bytes : (range : RangeParts) → 0 < length (range_line range)
range_has_bytes range = line_has_bytes (range_text range)

pub missing_has_bytes : (name : List ℕ) → 0 < length (missing_line name)
missing_has_bytes name = line_has_bytes (codes "% missing " ++ name)

pub form_has_bytes : (form : Form) → 0 < length (form_text form)
form_has_bytes form = line_has_bytes (canonical (shown form))
