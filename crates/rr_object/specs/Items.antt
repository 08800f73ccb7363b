-- The values of a paragraph's attributes, and the items of lists: for the reading of keys, objects,
-- queries and settings.
use Rattle.std.specs.Prelude.{ℕ, Bool, ◌==◌, ◌||◌, List, [], ◌∷◌, ◌++◌, Option}
use Rattle.std.specs.Prelude.{Some, None, is_some, filter, map, if◌then◌else◌}
use Rattle.std.specs.List.{flat_map, filter_map, list_all}
use Rattle.rr_bytes.specs.Blanks.{is_blank_or_comma}
use Rattle.rr_bytes.specs.Parts.{parts_at}
use Rattle.rr_text.specs.Fields.{Field, has_name}
use Rattle.rr_text.specs.Meanings.{value_meaning}

-- what the attributes of this name say, in order (RFC 2622, 2)
abbrev pub values_of : List ℕ → List Field → List (List ℕ)
values_of name fields = map (λ field. value_meaning field.lines) (filter (has_name name) fields)

-- the only value of a list, if it has exactly one (RFC 2622, 2)
abbrev pub only : {X : Type 0} → List X → Option X
only [] = None
only (value ∷ []) = Some value
only (value ∷ (other ∷ others)) = None

-- the items of a list; empty ones are ignored (RFC 2622, 2; profile)
unfoldable pub items : List ℕ → List (List ℕ)
items text = parts_at is_blank_or_comma text

-- the values of an attribute that is repeated are one list (RFC 2622, 2): a comma ends each
abbrev pub joined : List (List ℕ) → List ℕ
joined values = flat_map (λ value. value ++ 44 ∷ []) values

-- the braces round ranges (RFC 2725, 10)
abbrev pub is_brace : ℕ → Bool
is_brace b = (b == 123) || (b == 125)

-- a brace is an item by itself, also where no blank stands beside it (profile)
abbrev pub spaced : List ℕ → List ℕ
spaced text = flat_map (λ b. if is_brace b then 32 ∷ (b ∷ (32 ∷ [])) else b ∷ []) text

-- each item of a list is well spelled: `read` gives nothing for a badly spelled one (profile)
abbrev pub are_good : {X : Type 0} → (List ℕ → Option (Option X)) → List (List ℕ) → Bool
are_good read listed = list_all (λ item. is_some (read item)) listed

-- what an item stands for: nothing where it is badly spelled, and where it is well spelled and
-- dropped (profile)
abbrev pub meant_by : {X : Type 0} → Option (Option X) → Option X
meant_by None = None
meant_by (Some meant) = meant

-- what the items of a list stand for, without those that stand for nothing (profile)
abbrev pub meant : {X : Type 0} → (List ℕ → Option (Option X)) → List (List ℕ) → List X
meant read listed = filter_map (λ item. meant_by (read item)) listed
