-- The printed text of a set's name, component by component, and in upper case: for `SetName::read`.
use Rattle.std.proofs.Common.{◌≡◌, ℕ, List, [], ◌∷◌, ◌++◌, map, Some, None, refl, ap, sym, ◌∙◌}
use Rattle.std.proofs.Common.{append_assoc}
use Rattle.std.specs.List.{join_with_byte}
use Rattle.rr_bytes.specs.Cuts.{cut_at}
use Rattle.rr_number.specs.SetNames.{components, component_text, set_text}
use Rattle.rr_number.proofs.Components.{components-cut, components-uncut, some_component}

-- a join of several texts begins with the first one and a colon
joined_first : (c : List ℕ) (cs : List (List ℕ)) (d : List ℕ) (ds : List (List ℕ)) → cs ≡ d ∷ ds →
    join_with_byte 58 (map component_text (c ∷ cs)) ≡ component_text c ++
    (58 ∷ join_with_byte 58 (map component_text cs))
joined_first c cs d ds some = rw some refl

pub set_text-cut : (text before after : List ℕ) → cut_at 58 text ≡ Some (before, after) →
    set_text text ≡ component_text before ++ (58 ∷ set_text after)
unfolding set_text
set_text-cut text before after cut =
    let more = some_component after in
    ap (λ cs. join_with_byte 58 (map component_text cs)) (components-cut text before after cut)
    ∙ joined_first before (components after) more.0 more.1 more.2

pub set_text-uncut : (text : List ℕ) → cut_at 58 text ≡ None → set_text text ≡ component_text text
unfolding set_text
set_text-uncut text uncut = ap (λ cs. join_with_byte 58 (map component_text cs))
    (components-uncut text uncut)

-- a component and a colon more are printed
pub printed_more : (whole text with_component with_colon rest before after : List ℕ) →
    text ++ set_text rest ≡ whole → cut_at 58 rest ≡ Some (before, after) → with_component
    ≡ text ++ component_text before → with_colon ≡ with_component ++ (58 ∷ []) →
    with_colon ++ set_text after ≡ whole
printed_more whole text with_component with_colon rest before after so_far cut one two =
    rw (two, one, append_assoc, append_assoc)
    (ap (λ t. text ++ t) (sym (set_text-cut rest before after cut)) ∙ so_far)

-- the last component is printed
pub printed_last : (whole text with_component rest : List ℕ) → text ++ set_text rest ≡ whole →
    cut_at 58 rest ≡ None → with_component ≡ text ++ component_text rest → with_component ≡ whole
printed_last whole text with_component rest so_far uncut one =
    one ∙ ap (λ t. text ++ t) (sym (set_text-uncut rest uncut)) ∙ so_far
