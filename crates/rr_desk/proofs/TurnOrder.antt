-- Turns that are of the connections to come, in order.
use Rattle.std.proofs.Common.{◌≡◌, ℕ, zero, suc, List, [], ◌∷◌, Option, None, Some, arith, refl}
use Rattle.std.proofs.Common.{subst, ◌∙◌}
use Rattle.rr_desk.specs.Laws.{TurnsAreInOrder}
use Rattle.rr_desk.specs.Turns.{InOrder}

none_there : (bytes : List ℕ) → ◌≡◌ {A = Option (List ℕ)} None (Some bytes) → ⊥
none_there bytes is = cc

pub in_order : TurnsAreInOrder
in_order [] waiting after all place bytes within is = absurd (omega (arith, within))
in_order (visit ∷ visits) [] after all place bytes within is = absurd (none_there bytes is)
in_order (None ∷ visits) (next ∷ waiting) after all place bytes within is = absurd all.1
in_order (Some visit ∷ visits) (next ∷ waiting) after all zero bytes within is =
    record { visit = visit; is = refl; given = all.1.0 ∙ is }
in_order (Some visit ∷ visits) (next ∷ waiting) after all (suc place) bytes within is =
    let rest = in_order visits waiting after (subst (λ between. InOrder visits between after)
    all.1.1 all.2) place bytes (omega (arith, within)) is in
    record { visit = rest.visit; is = rest.is; given = rest.given }
