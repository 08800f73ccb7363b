use Rattle.std.proofs.Common.{◌∙◌, ◌++◌, ◌∷◌, [], ℕ, List, ap, sym}
use Rattle.std.specs.Prelude.{◌||◌}
use Rattle.std.specs.Prelude.{is_some}
use Rattle.std.specs.Str.{bytes_eq}
use Rattle.rr_number.specs.AnySets.{as_any}
use Rattle.rr_sets.proofs.Numbers.{missing_added, missing_kept}
use Rattle.rr_sets.proofs.as_sets.add_missing.Goals as goal

pub returns-then-is_known : goal.returns-then-is_known
returns-then-is_known c = λ r found. missing_kept r c.args.name.now c.args.missing.now.items
    (ap (λ o. is_some o || bytes_eq c.args.name.now as_any) (sym found)
    ∙ sym c.if-is_known.ensures)

pub returns : goal.returns
returns c = λ r found.
    c.in_ok-push.ensures.items
    ∙ ap (λ (n : List ℕ). c.args.missing.now.items ++ n ∷ []) c.in_ok-copy.ensures
    ∙ missing_added r c.args.name.now c.args.missing.now.items
    (ap (λ o. is_some o || bytes_eq c.args.name.now as_any) (sym found)
    ∙ sym c.if-is_known.ensures)
