-- Which part of a set's name names the set's parent, and what that parent is: for
-- `SetName::parent`, and for the verdict on a new set.
use Rattle.std.specs.Prelude.{ℕ, List, [], ◌∷◌, Option, None, Some, if◌then◌else◌}
use Rattle.std.specs.List.{join_with_byte, list_all}
use Rattle.std.specs.Option.{option_map, option_map_or}
use Rattle.rr_number.specs.AsNumbers.{as_number_of}
use Rattle.rr_number.specs.SetNames.{components, is_as_number}
use Rattle.rr_number.specs.declared.set_name.parent.Parent.{Parent}
use Rattle.rr_number.specs.declared.set_name.parent.Parent.TheVariants.{Number, Set, Bare}

-- All components but the last.
abbrev pub but_last : List (List ℕ) → List (List ℕ)
but_last [] = []
but_last (c ∷ []) = []
but_last (c ∷ d ∷ ds) = c ∷ but_last (d ∷ ds)

-- Components as one text, with colons between them, if there are any (RFC 2622, 5).
abbrev pub parent_text_by : List (List ℕ) → Option (List ℕ)
parent_text_by [] = None
parent_text_by (c ∷ cs) = Some (join_with_byte 58 (c ∷ cs))

-- The text of all components but the last, if there are several (RFC 2622, 5).
unfoldable pub parent_text : List ℕ → Option (List ℕ)
parent_text text = parent_text_by (but_last (components text))

-- A text that is an AS number names that AS, one of several AS numbers alone names nothing, and any
-- other names a set (RFC 2622, 5; profile).
abbrev pub named_by : List ℕ → Parent
named_by text = option_map_or Number (as_number_of text)
    (if list_all is_as_number (components text) then Bare else Set text)

-- The parent of a set is what its name without the last component names, if the name has several
-- components (RFC 2622, 5; RFC 2725, 9).
abbrev pub parent_of : List ℕ → Option Parent
parent_of text = option_map named_by (parent_text text)
