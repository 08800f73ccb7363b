-- How lists of items spell entries of `mnt-routes` (RFC 2725, 10; what follows a name: profile):
-- for the law `grants_are_read_as_spelled`.
use Rattle.std.specs.Prelude.{◌≡◌, ℕ, true, false, ◌⊎◌, List, [], ◌∷◌, ◌++◌}
use Rattle.std.specs.Prelude.{Some, codes}
use Rattle.rr_number.specs.Names.{maintainer_name_of}
use Rattle.rr_object.specs.Grants.{for_each_prefix, grants_of, is_any, range_item}
use Rattle.rr_object.specs.Items.{are_good, meant}
use Rattle.rr_object.specs.Parts.{GrantParts}

-- a maintainer's name alone is an entry for each prefix (profile)
pub record IsNameAlone (items : List (List ℕ)) (grant : GrantParts) : Type 0 where
  pub item : List ℕ
  pub spelled : items ≡ item ∷ []
  pub named : maintainer_name_of item ≡ Some grant.name
  pub value : grant ≡ for_each_prefix grant.name

-- a maintainer's name and `ANY` are an entry for each prefix (RFC 2725, 10)
pub record IsNameWithAny (items : List (List ℕ)) (grant : GrantParts) : Type 0 where
  pub item : List ℕ
  pub keyword : List ℕ
  pub spelled : items ≡ item ∷ (keyword ∷ [])
  pub named : maintainer_name_of item ≡ Some grant.name
  pub any : is_any keyword ≡ true
  pub value : grant ≡ for_each_prefix grant.name

-- a maintainer's name and well spelled ranges in braces are an entry for what these ranges admit
-- (RFC 2725, 10); a dropped range stands for nothing (profile)
pub record IsNameWithRanges (items : List (List ℕ)) (grant : GrantParts) : Type 0 where
  pub item : List ℕ
  pub listed : List (List ℕ)
  pub spelled : items ≡ item ∷ (codes "{" ∷ (listed ++ (codes "}" ∷ [])))
  pub named : maintainer_name_of item ≡ Some grant.name
  pub good : are_good range_item listed ≡ true
  pub value : grant ≡ record { name = grant.name; any = false; ranges = meant range_item listed }

-- an entry is spelled as a maintainer's name alone, or with `ANY` or ranges in braces after it
-- (RFC 2725, 10; profile)
abbrev pub IsGrant : List (List ℕ) → GrantParts → Type 0
IsGrant items grant =
    IsNameAlone items grant ⊎ (IsNameWithAny items grant ⊎ IsNameWithRanges items grant)

-- items spell entries where they are those of the first and, after them, those of the others
-- (RFC 2725, 10)
pub record IsHeadThenRest (Head Rest : List (List ℕ) → Type 0)
    (items : List (List ℕ)) : Type 0 where
  pub head : List (List ℕ)
  pub rest : List (List ℕ)
  pub cut : items ≡ head ++ rest
  pub first : Head head
  pub others : Rest rest

-- items that spell these entries, one after another (RFC 2725, 10)
abbrev pub AreGrants : List GrantParts → List (List ℕ) → Type 0
AreGrants [] items = items ≡ []
AreGrants (grant ∷ grants) items =
    IsHeadThenRest (λ head. IsGrant head grant) (AreGrants grants) items

-- the entries that are read of items are those that the items spell (RFC 2725, 10)
abbrev pub ReadGrantsAreSpelled : Type 0
ReadGrantsAreSpelled =
    (items : List (List ℕ)) (grants : List GrantParts) → grants_of items ≡ Some grants
    → AreGrants grants items

-- the entries that items spell are those that are read of them (RFC 2725, 10)
abbrev pub SpelledGrantsAreRead : Type 0
SpelledGrantsAreRead =
    (items : List (List ℕ)) (grants : List GrantParts) → AreGrants grants items
    → grants_of items ≡ Some grants
