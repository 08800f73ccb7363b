use Rattle.std.proofs.Common.{◌≡◌, ◌∙◌, sym, length, arith}
use Rattle.std.proofs.lemmas.Bool.Decides.{nat_tests}
use Rattle.rr_text.proofs.KeptLemmas.{printed_none}
use Rattle.rr_text.proofs.comparing.are_printed.Goals as goal

pub returns : goal.returns
returns c =
    let none : length c.lines.rest.now ≡ 0 = grind (arith, nat_tests) in
    sym (printed_none c.lines.rest.now none).1 ∙ c.lines.invariant
