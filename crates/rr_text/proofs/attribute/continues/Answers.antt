use Rattle.std.proofs.Common.{◌≡◌, ◌∙◌, ap, sym, length, arith}
use Rattle.std.proofs.lemmas.Bool.Decides.{nat_tests}
use Rattle.rr_text.specs.Entries.{continued}
use Rattle.rr_text.proofs.EntryLemmas.{opened, entries_none}
use Rattle.rr_text.proofs.KeptLemmas.{not_no}
use Rattle.rr_text.proofs.attribute.continues.Goals as goal

pub returns-then-is_empty : goal.returns-then-is_empty
returns-then-is_empty c = λ _.
    let none : length c.args.text.now ≡ 0 = grind (arith, nat_tests) in
    (entries_none c.args.text.now none).0

pub returns : goal.returns
returns c = λ no. ap continued c.split_line.ensures.lines
    ∙ (opened _ _ _ c.of.ensures (sym c.opens_attribute.ensures ∙ not_no c.opens_attribute.result
    no)).lines
