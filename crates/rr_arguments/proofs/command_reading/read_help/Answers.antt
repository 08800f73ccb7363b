use Rattle.std.proofs.Common.{◌≡◌, rules, List, [], ◌∷◌, None, ap, codes, map, string_bytes}
use Rattle.clap.specs.Values.{kind_of}
use Rattle.clap.specs.Walk.{Text}
use Rattle.rr_arguments.specs.CommandLine.{invoked_unless, line_kinds}
use Rattle.rr_arguments.proofs.CommandLines.{answered, kinds_at_err, kinds_at_ok}
use Rattle.rr_arguments.proofs.command_reading.read_help.Goals as goal

pub returns-in-Ok : goal.returns-in-Ok
returns-in-Ok c =
    let words : List Text = c.args.first.now ∷ c.args.name.now ∷ codes "--help" ∷ [] in
    let same : map string_bytes c.as_slice.result.now ≡ words = search rules in
    ap (λ kinds. invoked_unless kinds None)
    (kinds_at_ok _ _ words c.in_ok-program.ensures.0 same c.in-Ok.ensures.kinds)

pub returns : goal.returns
returns c =
    let words : List Text = c.args.first.now ∷ c.args.name.now ∷ codes "--help" ∷ [] in
    let same : map string_bytes c.as_slice.result.now ≡ words = search rules in
    answered (kind_of c.in-Err.error) (line_kinds words) None c.read_refusal.result
    (kinds_at_err _ _ words c.in-Err.error c.in_ok-program.ensures.0 same c.in-Err.ensures.kinds)
    c.read_refusal.ensures
