-- The texts of objects and of expansions, as answers and public dumps have them. `tools/irr` and
-- `web` read them: who changes them changes those too.
use Rattle.std.specs.Prelude.{ℕ, List, [], ◌∷◌, ◌++◌, codes}
use Rattle.std.specs.List.{flat_map}
use Rattle.rr_number.specs.Applied.{range_text}
use Rattle.rr_number.specs.AsNumbers.{as_number_text}
use Rattle.rr_number.specs.Ranges.{RangeParts}
use Rattle.rr_text.specs.CanonicalText.{canonical, ended}
use Rattle.rr_object.specs.Objects.{Obj}
use Rattle.rr_object.specs.Readings.{public_of}

-- An object as it is answered: its public canonical text and an empty line (profile).
abbrev pub public_text : Obj → List ℕ
public_text o = ended (canonical (public_of o))

-- A text, or another where it is empty (profile).
abbrev pub or_else : List ℕ → List ℕ → List ℕ
or_else other [] = other
or_else other (b ∷ bs) = b ∷ bs

-- The answer that there is no object, or no set (profile).
abbrev pub no_entries : List ℕ
no_entries = ended (codes "% no entries")

-- The text of objects, each as it is answered; a line says so where there is none (profile).
unfoldable pub objects_text : List Obj → List ℕ
objects_text os = or_else no_entries (flat_map public_text os)

-- The line of a name that is reached and of which there is no set (profile).
abbrev pub missing_line : List ℕ → List ℕ
missing_line name = ended (codes "% missing " ++ name)

-- The line of an AS number in an expansion (profile).
abbrev pub number_line : ℕ → List ℕ
number_line n = ended (as_number_text n)

-- The line of a range in an expansion (profile).
abbrev pub range_line : RangeParts → List ℕ
range_line range = ended (range_text range)

-- An expansion as it is answered: a line for each AS number or range, then one for each missing
-- name; `% empty` where there is none of either (profile).
unfoldable pub members_text : {X : Type 0} → (X → List ℕ) → List X → List (List ℕ)
    → List ℕ
members_text line found missing =
    or_else (ended (codes "% empty"))
    (flat_map (λ x. ended (line x)) found ++ flat_map missing_line missing)
