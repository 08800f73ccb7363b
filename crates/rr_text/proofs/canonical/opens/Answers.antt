use Rattle.std.proofs.Common.{◌≡◌, sym, length, arith}
use Rattle.std.proofs.lemmas.Bool.Decides.{nat_tests}
use Rattle.rr_text.proofs.KeptLemmas.{printed_none}
use Rattle.rr_text.proofs.canonical.opens.Goals as goal

pub returns-then-is_empty : goal.returns-then-is_empty
returns-then-is_empty c =
    let none : length c.args.text.now ≡ 0 = grind (arith, nat_tests) in
    sym (printed_none c.args.text.now none).2
