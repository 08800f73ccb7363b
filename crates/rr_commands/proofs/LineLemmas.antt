-- Lemmas on texts as they are written on a line.
use Rattle.std.proofs.Common.{◌≡◌, ℕ, ◌+◌, ◌<◌, List, ◌∷◌, length, map, get_or, drop, add-one}
use Rattle.std.proofs.Common.{drop-cons}

-- what is written from a place on: the byte there, and what stands after it
pub map-next : {X Y : Type 0} (f : X → Y) (xs : List X) (i : ℕ) (d : X) → i < length xs →
    map f (drop i xs) ≡ f (get_or xs i d) ∷ map f (drop (i + 1) xs)
map-next f xs i d h = rw (add-one, drop-cons xs i d h)
