use Rattle.std.proofs.Common.{◌∙◌, List, map, refl, sym, string_bytes}
use Rattle.clap.specs.Matches.{found_of}
use Rattle.clap.specs.Simple.{subcommand_rows_of}
use Rattle.clap.specs.Values.{kind_of}
use Rattle.clap.specs.Walk.{Text, rows_of}
use Rattle.rr_arguments.specs.CommandLine.{line_command, line_kinds}
use Rattle.rr_arguments.proofs.CommandLines.{answered, command_at_ok, kinds_at_err, kinds_at_ok}
use Rattle.rr_arguments.proofs.CommandLines.{reads_found, stop_of}
use Rattle.rr_arguments.proofs.Flags.{is_flag}
use Rattle.rr_arguments.proofs.command_reading.parse.Goals as goal

pub returns-in-Some : goal.returns-in-Some
returns-in-Some c =
    let words : List Text = map string_bytes c.args.arguments.now in
    let kinds = kinds_at_ok _ _ words c.in_ok-program.ensures.0 refl c.in-Ok.ensures.kinds in
    let stop = command_at_ok _ _ words (subcommand_rows_of c.in-Ok.matches)
    c.in_ok-program.ensures.0 refl c.in-Ok.ensures.matches in
    let name = c.in-Some.name.now in
    let rows = rows_of (found_of c.in-Some.found.now) in
    let at = sym stop ∙ stop_of c.in-Ok.matches name rows c.in-Some.ensures.name
    c.in-Some.ensures.rows in
    reads_found words name rows c.read_found.result kinds at
    (c.read_found.ensures (is_flag words name rows at))

pub returns : goal.returns
returns c =
    let words : List Text = map string_bytes c.args.arguments.now in
    answered (kind_of c.in-Err.error) (line_kinds words) (line_command words) c.read_refusal.result
    (kinds_at_err _ _ words c.in-Err.error c.in_ok-program.ensures.0 refl c.in-Err.ensures.kinds)
    c.read_refusal.ensures
