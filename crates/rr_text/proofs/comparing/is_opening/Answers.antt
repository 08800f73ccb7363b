use Rattle.std.proofs.Common.{◌∙◌, sym, ap}
use Rattle.std.specs.Option.{option_map}
use Rattle.rr_text.specs.CanonicalText as canon
use Rattle.rr_text.proofs.ComparingLemmas.{all_left, is_all}
use Rattle.rr_text.proofs.comparing.is_opening.Goals as goal

pub returns-in-Some : goal.returns-in-Some
returns-in-Some c =
    let form = canon.ended (canon.opening_line c.args.name.now c.args.line.now) in
    c.is_empty.ensures
    ∙
    (sym (ap is_all (sym c.after_opening.ensures ∙ ap (option_map (λ left. left.now))
    c.in-Some.is)) ∙ all_left form c.args.text.now)

pub returns-in-None : goal.returns-in-None
returns-in-None c =
    let form = canon.ended (canon.opening_line c.args.name.now c.args.line.now) in
    sym (ap is_all (sym c.after_opening.ensures ∙ ap (option_map (λ left. left.now)) c.in-None.is))
    ∙ all_left form c.args.text.now
