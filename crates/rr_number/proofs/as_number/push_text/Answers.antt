use Rattle.std.specs.Fmt.{decimal}
use Rattle.std.proofs.Common.{append_assoc, arith, length-append, ◌++◌, ◌∷◌, []}
use Rattle.rr_number.proofs.Decimals.{ten_digits}
use Rattle.rr_number.proofs.as_number.push_text.Goals as goal

pub push_number-requires : goal.push_number-requires
push_number-requires c =
    rw c.push_str.ensures
    (omega (
      arith,
      length-append c.args.text.now (65 ∷ 83 ∷ []),
      ten_digits c.args.number
          (omega arith),
    ))

pub returns : goal.returns
returns c = record {
  value = rw (c.push_number.ensures, c.push_str.ensures)
      (append_assoc c.args.text.now (65 ∷ 83 ∷ []) (decimal c.args.number));
  short = rw (c.push_number.ensures, c.push_str.ensures)
      (omega (
        arith,
        length-append (c.args.text.now ++ (65 ∷ 83 ∷ [])) (decimal c.args.number),
        length-append c.args.text.now (65 ∷ 83 ∷ []),
        ten_digits c.args.number (omega arith),
      ));
}
