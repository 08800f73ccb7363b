-- Entries of `mnt-routes`, read item by item (RFC 2725, 10; what follows a name: profile): for the
-- reading of objects. `GrantTexts` has what this means.
use Rattle.std.specs.Prelude.{ℕ, Bool, true, false, List, [], ◌∷◌, ◌++◌, Option, Some}
use Rattle.std.specs.Prelude.{None, codes, if◌then◌else◌}
use Rattle.std.specs.Option.{option_map, option_and_then, option_to_list}
use Rattle.std.specs.Str.{bytes_eq}
use Rattle.rr_number.specs.Names.{maintainer_name_of}
use Rattle.rr_number.specs.Ranges.{RangeParts, bare}
use Rattle.rr_number.specs.Applied.{applied, ranged_of}
use Rattle.rr_object.specs.declared.grants.OpenGrant.{OpenGrant}
use Rattle.rr_object.specs.declared.grants.OpenGrant.TheVariants.{Nothing, Named, Braced}
use Rattle.rr_bytes.specs.LetterCase.{is_keyword}
use Rattle.rr_object.specs.Parts.{GrantParts}

-- the keyword `ANY`, in any letter case (RFC 2622, 2)
abbrev pub is_any : List ℕ → Bool
is_any item = is_keyword (codes "any") item

-- the opening brace before ranges (RFC 2725, 10)
abbrev pub is_opening : List ℕ → Bool
is_opening item = bytes_eq item (codes "{")

-- the closing brace after ranges (RFC 2725, 10)
abbrev pub is_closing : List ℕ → Bool
is_closing item = bytes_eq item (codes "}")

-- a prefix with an operator or none; a range that the operator empties is well spelled and stands
-- for nothing (RFC 2622, 2; profile)
unfoldable pub range_item : List ℕ → Option (Option RangeParts)
range_item item = option_map (λ ranged. applied ranged.1 (bare ranged.0)) (ranged_of item)

-- an entry for each prefix (RFC 2725, 10)
abbrev pub for_each_prefix : List ℕ → GrantParts
for_each_prefix name = record { name = name; any = true; ranges = [] }

-- an entry for the prefixes that ranges admit, with no range yet (RFC 2725, 10)
abbrev pub for_no_prefix : List ℕ → GrantParts
for_no_prefix name = record { name = name; any = false; ranges = [] }

-- an entry with one range more, unless that range is dropped (RFC 2725, 10; profile)
abbrev pub with_range : GrantParts → Option RangeParts → GrantParts
with_range grant None = grant
with_range grant (Some range) =
    record { name = grant.name; any = grant.any; ranges = grant.ranges ++ range ∷ [] }

-- what an item adds to the entry that is open: the entry that it ends, if it ends one, and what
-- is open then. An entry is a maintainer's name, then `ANY`, ranges in braces, or nothing, which
-- means `ANY` (RFC 2725, 10; profile)
unfoldable pub next_grant : OpenGrant → List ℕ → Option (Option GrantParts × OpenGrant)
next_grant Nothing item = option_map (λ name. (None, Named name)) (maintainer_name_of item)
next_grant (Named name) item =
    if is_any item then Some (Some (for_each_prefix name), Nothing)
    else if is_opening item then Some (None, Braced (for_no_prefix name))
    else option_map (λ next. (Some (for_each_prefix name), Named next)) (maintainer_name_of item)
next_grant (Braced grant) item =
    if is_closing item then Some (Some grant, Nothing)
    else option_map (λ range. (None, Braced (with_range grant range))) (range_item item)

-- the entry that the end of the list ends; braces have to be closed (RFC 2725, 10)
abbrev pub last_grant : OpenGrant → Option (List GrantParts)
last_grant Nothing = Some []
last_grant (Named name) = Some (for_each_prefix name ∷ [])
last_grant (Braced grant) = None

-- the entries of a list of items after what is open; nothing where one is badly spelled
-- (RFC 2725, 10)
unfoldable pub grants_after : OpenGrant → List (List ℕ) → Option (List GrantParts)
grants_after open_grant [] = last_grant open_grant
grants_after open_grant (item ∷ others) =
    option_and_then (λ next. option_map (λ grants. option_to_list next.0 ++ grants)
    (grants_after next.1 others)) (next_grant open_grant item)

-- the entries of a list of items (RFC 2725, 10)
abbrev pub grants_of : List (List ℕ) → Option (List GrantParts)
grants_of listed = grants_after Nothing listed
