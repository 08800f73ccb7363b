use Rattle.std.proofs.Common.{map, ◌∙◌}
use Rattle.std.proofs.lemmas.Result.{IfOk-weaker}
use Rattle.rr_number.specs.Prefixes.{span_of}
use Rattle.rr_index.proofs.Choices.{chosen_both, led_to}
use Rattle.rr_index.specs.ChosenKeyParts.{is_chosen}
use Rattle.rr_index.proofs.object_map.ObjectMap.chosen.Goals as goal

pub returns : goal.returns
returns c =
    let r = c.args.self.now in
    let spans = c.args.spans.now in
    let routed = map span_of c.args.prefixes.now in
    IfOk-weaker c.at_keys.result _ _
    (λ found is. is ∙ led_to r c.requires (is_chosen spans routed) c.add_routes.new.keys
    c.at_keys.ensures.ordered
    (chosen_both r c.requires spans routed c.in_ok-keys.keys c.add_routes.new.keys
    c.in_ok-keys.ensures c.in_ok-add_routes.ensures))
    c.at_keys.ensures.found
