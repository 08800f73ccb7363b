use Rattle.std.proofs.Common.{◌≡◌, rules, arith, List, length, map, string_bytes, sym, subst}
use Rattle.std.proofs.lemmas.List.{length-map}
use Rattle.clap.specs.Walk.{Text}
use Rattle.rr_arguments.specs.CommandLine.{Invocation, GivesInvoked, parsed, parsed_or_helped}
use Rattle.rr_arguments.proofs.CommandLines.{parsed_if_long, parsed_if_no_help, parsed_if_short}
use Rattle.rr_arguments.proofs.CommandLines.{text_at}
use Rattle.rr_arguments.proofs.command_reading.read_arguments.Goals as goal

pub returns-in_default : goal.returns-in_default
returns-in_default c =
    let words : List Text = map string_bytes c.args.arguments.now in
    let count : length words ≡ length c.args.arguments.now = length-map c.args.arguments.now
    string_bytes in
    let by_rules : parsed_or_helped words ≡ parsed words = elim c.in_default.branch [
      | goal.in_default-via-then-arguments-lt3 w ↦ parsed_if_short words (search rules)
      | goal.in_default-via-in-len3+else-is_help w ↦ parsed_if_no_help words w.as_str.result.now
          w.as_str-then-arguments-lt4.result.now (omega arith)
          (text_at string_bytes c.args.arguments.now 1 w.help-item.result w.as_str.result.now
          (omega arith) w.help-item.is w.as_str.ensures.value)
          (text_at string_bytes c.args.arguments.now 2 w.name-item.result
          w.as_str-then-arguments-lt4.result.now (omega arith) w.name-item.is
          w.as_str-then-arguments-lt4.ensures.value) (search (rules, w.if-is_help.ensures))
      | goal.in_default-via-else-arguments-lt3+else-arguments-lt4 w ↦ parsed_if_long words
          (search rules)
    ] in
    subst (λ (invocation : Invocation). GivesInvoked invocation c.parse.result) (sym by_rules)
    c.parse.ensures
