use Rattle.std.proofs.Common.{◌∙◌, sym, ap}
use Rattle.std.specs.Prelude.{Some, None, option_map}
use Rattle.std.specs.Option.{option_map_or}
use Rattle.clap.specs.Walk.{Text}
use Rattle.clap.specs.Matches.{found_of}
use Rattle.clap.proofs.WalkLemmas.{first_value-rows}
use Rattle.rr_arguments.specs.CommandLine.{nothing}
use Rattle.rr_arguments.proofs.command_reading.read_argument.Goals as goal

pub returns-in-Some : goal.returns-in-Some
returns-in-Some c made =
    ap (λ (t : Rattle.std.specs.Prelude.Option Text). option_map_or made t nothing)
    (sym (first_value-rows (found_of c.args.found.now) c.args.place.now) ∙ sym c.get_str.ensures
    ∙ ap (option_map (λ s. s.now)) c.in-Some.is)

pub returns-in-None : goal.returns-in-None
returns-in-None c made =
    ap (λ (t : Rattle.std.specs.Prelude.Option Text). option_map_or made t nothing)
    (sym (first_value-rows (found_of c.args.found.now) c.args.place.now) ∙ sym c.get_str.ensures
    ∙ ap (option_map (λ s. s.now)) c.in-None.is)
