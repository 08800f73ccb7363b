-- What one item does to what is held: for `Registry::apply`, and laws of `src/confinement_laws.rt`.
use Rattle.std.specs.Prelude.{◌≡◌, ℕ, true, List}
use Rattle.rr_auth.specs.declared.item.Item.{Item}
use Rattle.rr_auth.specs.Laws.{IsItem}
use Rattle.rr_auth.specs.Registries.{Reg, Sound}
use Rattle.rr_auth.specs.Verdicts.{step, verdict}
use Rattle.rr_registry.specs.Holdings.{Agree, Holding, IsHeld, is_foreign, is_own}

-- A registry keeps what was held in another: they agree on it, and the prefix is still held.
pub record IsLeft (h : Holding) (before then : Reg) : Type 0 where
  pub agree : Agree h before then
  pub held : IsHeld h then

-- Where a prefix is held, and none of the secrets fits a mntner of the holders, what is held is
-- left as it was, and the prefix held.
abbrev pub LeavesOthers : Reg → List (List ℕ) → Reg → Type 0
LeavesOthers before secrets then =
    (h : Holding) → IsHeld h before → is_foreign h before secrets ≡ true
    → IsLeft h before then

-- In a sound registry, a well-formed item leaves what is held, and the prefix held, where none of
-- the secrets given with it fits a mntner of the holders.
abbrev pub ForeignItemsLeave : Type 0
ForeignItemsLeave =
    (r : Reg) (secrets : List (List ℕ)) (i : Item) → Sound r → IsItem i
    → LeavesOthers r secrets (step r secrets i)

-- In two registries an item has one verdict, they agree after it on what is held, and the prefix is
-- still held in both.
pub record IsAlike (h : Holding) (r q : Reg) (secrets : List (List ℕ)) (i : Item) : Type 0 where
  pub verdicts : verdict r secrets i ≡ verdict q secrets i
  pub agree : Agree h (step r secrets i) (step q secrets i)
  pub held : IsHeld h (step r secrets i)
  pub held_too : IsHeld h (step q secrets i)

-- A well-formed item of the holders' own is judged alike in two sound registries in which the
-- prefix is held and which agree on what is held. It leaves them agreeing, with the prefix held.
abbrev pub OwnItemsAreAlike : Type 0
OwnItemsAreAlike =
    (h : Holding) (r q : Reg) (secrets : List (List ℕ)) (i : Item) → Sound r → Sound q
    → IsHeld h r → IsHeld h q
    → Agree h r q → IsItem i → is_own h i ≡ true → IsAlike h r q secrets i
