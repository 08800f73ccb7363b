-- The names of maintainers and sources, and the reserved words, which no maintainer is named by:
-- for `Name`, and for names of sets.
use Rattle.std.specs.Prelude.{◌≡◌, ℕ, Bool, true, not, ◌&&◌, List, [], ◌∷◌, codes}
use Rattle.std.specs.Prelude.{nat_eq, Option, None, Some, if◌then◌else◌}
use Rattle.std.specs.List.{list_any, starts_with}
use Rattle.std.specs.Str.{bytes_eq}
use Rattle.rr_bytes.specs.LetterCase.{upper}
use Rattle.rr_bytes.specs.NameBytes.{is_name}
use Rattle.rr_number.specs.AnySets.{as_any, rs_any}

-- The name that a text spells, in upper case, if it spells one (RFC 2622, 2; profile).
abbrev pub name_of : List ℕ → Option (List ℕ)
name_of bs = if is_name bs then Some (upper bs) else None

-- A name as it is kept: it spells a name, and is in upper case (profile).
pub record IsUpperName (name : List ℕ) : Type 0 where
  pub spelled : is_name name ≡ true
  pub upper_case : upper name ≡ name

-- The words that RPSL keeps for itself, in upper case (RFC 2622, 2).
abbrev pub reserved_words : List (List ℕ)
reserved_words =
    codes "ANY" ∷ (as_any
    ∷ (rs_any ∷ (codes "PEERAS" ∷ (codes "AND" ∷ (codes "OR" ∷ (codes "NOT" ∷
    (codes "ATOMIC" ∷ (codes "FROM" ∷ (codes "TO"
    ∷ (codes "AT" ∷ (codes "ACTION" ∷ (codes "ACCEPT" ∷ (codes "ANNOUNCE" ∷
    (codes "EXCEPT" ∷ (codes "REFINE" ∷ (codes "NETWORKS"
    ∷ (codes "INTO" ∷ (codes "INBOUND" ∷ (codes "OUTBOUND" ∷ [])))))))))))))))))))

-- A name, in upper case, is reserved where RPSL keeps the word for itself (RFC 2622, 2).
unfoldable pub is_reserved : List ℕ → Bool
is_reserved name = list_any (bytes_eq name) reserved_words

-- A name, in upper case, may be a maintainer's where it is not reserved and does not begin with
-- `AS-` or `RS-` (RFC 2622, 2).
abbrev pub is_maintainer_name : List ℕ → Bool
is_maintainer_name name =
    not (is_reserved name)
    && (not (starts_with nat_eq name (codes "AS-")) && not (starts_with nat_eq name (codes "RS-")))

-- The maintainer's name that a text spells, in upper case, if it spells one (RFC 2622, 2).
abbrev pub maintainer_name_of : List ℕ → Option (List ℕ)
maintainer_name_of bs = if is_maintainer_name (upper bs) then name_of bs else None
