use Rattle.std.proofs.Common.{◌≡◌, ◌-◌, ◌+◌, ◌∙◌, ap, arith, drop, length, sym, take}
use Rattle.std.specs.Option.{option_map}
use Rattle.std.proofs.lemmas.List.{length-drop, take_all}
use Rattle.rr_http.specs.HeadParts.{goal_place}
use Rattle.rr_http.proofs.SeenLemmas.{place_after_seen}
use Rattle.rr_http.proofs.heads.Goal.place_after.Goals as goal

pub returns-in-Some : goal.returns-in-Some
returns-in-Some c =
    let text = c.args.text.now in
    let from = c.saturating_sub-from.result in
    let all : take (length text - from) (drop from text) ≡ drop from text =
    take_all _ _ (omega (arith, length-drop from text)) in
    ap (λ found. option_map (λ n. from + n) found)
    (c.in-Some.ensures.value ∙ ap (goal_place c.args.self) all)
    ∙ sym (place_after_seen c.args.self text c.args.seen from c.saturating_sub-from.ensures
    c.requires.unreached)

pub returns-in-None : goal.returns-in-None
returns-in-None c =
    let text = c.args.text.now in
    let from = c.saturating_sub-from.result in
    let all : take (length text - from) (drop from text) ≡ drop from text =
    take_all _ _ (omega (arith, length-drop from text)) in
    ap (λ found. option_map (λ n. from + n) found)
    (c.in-None.ensures.value ∙ ap (goal_place c.args.self) all)
    ∙ sym (place_after_seen c.args.self text c.args.seen from c.saturating_sub-from.ensures
    c.requires.unreached)
