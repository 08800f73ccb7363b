-- The one text that a paragraph is printed as (profile), in answers, dumps and rows.
use Rattle.std.specs.Prelude.{ℕ, ◌+◌, ◌-◌, max, length, replicate, List, [], ◌∷◌}
use Rattle.std.specs.Prelude.{◌++◌}
use Rattle.std.specs.List.{flat_map}
use Rattle.rr_text.specs.Fields.{Field}

-- values begin in column 16, counted from 0 (profile)
abbrev pub value_column : ℕ
value_column = 16

-- a line after so many spaces, or nothing where it is empty
abbrev pub after_blanks : ℕ → List ℕ → List ℕ
after_blanks count [] = []
after_blanks count (b ∷ bs) = replicate count 32 ++ b ∷ bs

-- a name, a colon, spaces up to the column of values and at least one, and the first line of the
-- value. Where that is empty the name and the colon stand alone (profile)
abbrev pub opening_line : List ℕ → List ℕ → List ℕ
opening_line name line =
    (name ++ 58 ∷ []) ++ after_blanks (max 1 (value_column - (length name + 1))) line

-- a further line of a value stands after sixteen spaces, an empty one is `+` (profile)
abbrev pub further_line : List ℕ → List ℕ
further_line [] = 43 ∷ []
further_line (b ∷ bs) = replicate value_column 32 ++ b ∷ bs

-- a line with the LF that ends it
abbrev pub ended : List ℕ → List ℕ
ended line = line ++ 10 ∷ []

-- an attribute's printed lines: one of its name and the first line of its value, and one for each
-- further line
abbrev pub value_text : List ℕ → List (List ℕ) → List ℕ
value_text name [] = []
value_text name (first ∷ further) =
    ended (opening_line name first) ++ flat_map (λ line. ended (further_line line)) further

-- an attribute is printed as one line for each line of its value (profile)
abbrev pub field_text : Field → List ℕ
field_text field = value_text field.name field.lines

-- a paragraph is printed as its attributes one after another (profile)
unfoldable pub canonical : List Field → List ℕ
canonical fields = flat_map field_text fields
