-- Texts that are joined: for `joined_by_space`.
use Rattle.std.proofs.Common.{◌≡◌, ℕ, Bor, List, [], ◌∷◌, ◌++◌, ap, sym}
use Rattle.std.specs.Prelude.{map}
use Rattle.std.specs.List.{flat_map}
use Rattle.std.proofs.lemmas.List.{append-nil}
use Rattle.rr_bytes.specs.Parts.{joined_by_space}

-- texts as one are the first, and each further one after a space
pub joined_first : (first : List ℕ) (further : List (Bor (List ℕ))) →
    joined_by_space (first ∷ map (λ text. text.now) further) ≡ first ++ flat_map
    (λ text. 32 ∷ text.now) further
joined_first first [] = sym (append-nil first)
joined_first first (text ∷ further) = ap (λ joined. first ++ (32 ∷ joined))
    (joined_first text.now further)
