use Rattle.std.proofs.Common.{◌≡◌, rules, arith, List, length, map, string_bytes, sym, subst}
use Rattle.std.proofs.lemmas.List.{length-map}
use Rattle.clap.specs.Walk.{Text}
use Rattle.rr_arguments.specs.CommandLine.{Invocation, GivesInvoked, invoked, parsed_or_helped}
use Rattle.rr_arguments.proofs.CommandLines.{ruled_if_no_query, ruled_if_short, text_at}
use Rattle.rr_arguments.proofs.command_reading.read_command.Goals as goal

pub returns-in_default : goal.returns-in_default
returns-in_default c =
    let words : List Text = map string_bytes c.args.arguments.now in
    let count : length words ≡ length c.args.arguments.now = length-map c.args.arguments.now
    string_bytes in
    let by_rules : invoked words ≡ parsed_or_helped words = elim c.in_default.branch [
      | goal.in_default-via-then-arguments-lt3 w ↦ ruled_if_short words (search rules)
          (search rules)
      | goal.in_default-via-in-len3-up+else-is_query w ↦ ruled_if_no_query words w.as_str.result.now
          w.as_str-2.result.now (omega arith) (text_at string_bytes c.args.arguments.now 1
          w.name-item.result w.as_str.result.now (omega arith) w.name-item.is
          w.as_str.ensures.value) (text_at string_bytes c.args.arguments.now 2
          w.settings-item.result w.as_str-2.result.now (omega arith) w.settings-item.is
          w.as_str-2.ensures.value) (search (rules, w.if-is_query.ensures, count))
    ] in
    subst (λ (invocation : Invocation). GivesInvoked invocation c.read_arguments.result)
    (sym by_rules) c.read_arguments.ensures
