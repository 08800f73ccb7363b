use Rattle.std.proofs.Common.{◌≡◌, ◌∙◌, rules, List, [], ap, sym, subst, codes, map}
use Rattle.std.specs.Prelude.{unwrap_or}
use Rattle.std.specs.Borrow.{Bor}
use Rattle.clap.specs.Matches.{found_of}
use Rattle.clap.specs.Walk.{Text, all_of, one_of, rows_of}
use Rattle.clap.proofs.WalkLemmas.{one_text-rows, raw_values-rows}
use Rattle.rr_arguments.specs.CommandLine.{Invocation, GivesInvoked, invoked_over, dump, flag_of}
use Rattle.rr_arguments.specs.CommandLine.{joined, query}
use Rattle.rr_arguments.proofs.CommandLines.{flag_is, words_or}
use Rattle.rr_arguments.proofs.command_reading.read_found.Goals as goal

pub returns-in-query : goal.returns-in-query
returns-in-query c flag =
    let rows = rows_of (found_of c.args.found.now) in
    let over = c.in_ok-settings.ensures (invoked_over c.args.name.now rows) in
    let given = unwrap_or (all_of (codes "WORD") rows) [] in
    let is : invoked_over c.args.name.now rows c.in_ok-settings.settings.now
    ≡ query c.in_ok-settings.settings.now (joined given) = search rules in
    let words : given ≡ map (λ (w : Bor Text). w.now) c.unwrap_or.result.now =
    words_or c.get_strs.result _ (all_of (codes "WORD") rows)
    (c.get_strs.ensures ∙ raw_values-rows (found_of c.args.found.now) (codes "WORD"))
    (search rules)
    ∙ ap (λ (s : Bor (List (Bor Text))). map (λ (w : Bor Text). w.now) s.now)
    (sym c.unwrap_or.ensures) in
    subst (λ (invocation : Invocation). GivesInvoked invocation c.read_query.result)
    (sym (over ∙ is ∙ ap (λ (ws : List Text). query c.in_ok-settings.settings.now (joined ws))
    words)) c.read_query.ensures

pub returns-in-dump : goal.returns-in-dump
returns-in-dump c flag =
    let rows = rows_of (found_of c.args.found.now) in
    let over = c.in_ok-settings.ensures (invoked_over c.args.name.now rows) in
    let is : invoked_over c.args.name.now rows c.in_ok-settings.settings.now
    ≡ dump c.in_ok-settings.settings.now (flag_of (codes "full") rows) = search rules in
    let text = one_text-rows (found_of c.args.found.now) (codes "full") in
    let flags : flag_of (codes "full") rows ≡ c.get_flag.result =
    flag_is (one_of (codes "full") rows) c.get_flag.result (flag (search rules))
    (λ e. c.get_flag.ensures.none (text ∙ e)) (λ e. c.get_flag.ensures.value (text ∙ e))
    (λ e. c.get_flag.ensures.other (text ∙ e)) in
    over ∙ is ∙ ap (dump c.in_ok-settings.settings.now) flags
