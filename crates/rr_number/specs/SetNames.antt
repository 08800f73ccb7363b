-- The names of as-sets and route-sets: for `SetName`, keys and members.
use Rattle.std.specs.Prelude.{◌≡◌, ℕ, Bool, not, ◌==◌, ◌&&◌, ◌||◌, List, length}
use Rattle.std.specs.Prelude.{map, codes, is_some, nat_eq, nat_le, Option, None, Some}
use Rattle.std.specs.Prelude.{if◌then◌else◌, true}
use Rattle.std.specs.List.{join_with_byte, list_all, list_any, slice_split, starts_with}
use Rattle.std.specs.Option.{option_map_or}
use Rattle.std.specs.Str.{bytes_eq}
use Rattle.rr_number.specs.AnySets.{as_any, rs_any}
use Rattle.rr_number.specs.AsNumbers.{as_number_of, as_number_text}
use Rattle.rr_bytes.specs.LetterCase.{upper}
use Rattle.rr_bytes.specs.NameBytes.{is_name}
use Rattle.rr_number.specs.Names.{is_reserved}
use Rattle.rr_number.specs.declared.set_kind.SetKind.{SetKind}
use Rattle.rr_number.specs.declared.set_kind.SetKind.TheVariants.{AsSet, RouteSet}

-- What the words of sets of a kind begin with: `AS-` or `RS-` (RFC 2622, 2).
abbrev pub word_start : SetKind → List ℕ
word_start AsSet = codes "AS-"
word_start RouteSet = codes "RS-"

-- The components of a set's name are the texts round its colons (RFC 2622, 5).
abbrev pub components : List ℕ → List (List ℕ)
components text = slice_split (λ b. b == 58) text

-- A component that is an AS number (RFC 2622, 5).
abbrev pub is_as_number : List ℕ → Bool
is_as_number component = is_some (as_number_of component)

-- A word of sets of a kind is a name that begins as the words of the kind do and is not reserved
-- (RFC 2622, 5).
abbrev pub is_set_word : SetKind → List ℕ → Bool
is_set_word kind component =
    is_name component && (starts_with nat_eq (upper component) (word_start kind)
    && not (is_reserved (upper component)))

-- A component is an AS number or a word of sets of the kind (RFC 2622, 5).
abbrev pub is_component : SetKind → List ℕ → Bool
is_component kind component = is_as_number component || is_set_word kind component

-- Each component is an AS number or a word of the kind, and at least one is such a word
-- (RFC 2622, 5).
abbrev pub is_name_of_kind : SetKind → List ℕ → Bool
is_name_of_kind kind text =
    list_all (is_component kind) (components text) && list_any (is_set_word kind) (components text)

-- A text is `AS-ANY` or `RS-ANY`, in any letter case, which name sets only by themselves
-- (RFC 2622, 5; profile).
abbrev pub is_any_set : List ℕ → Bool
is_any_set text = bytes_eq (upper text) as_any || bytes_eq (upper text) rs_any

-- the most bytes that a set's name is spelled in (profile)
abbrev pub set_name_limit : ℕ
set_name_limit = 255

-- A set's name has at most 255 bytes as it is spelled (profile), and is `AS-ANY`, `RS-ANY`, or
-- components of one kind (RFC 2622, 5).
unfoldable pub is_set_name : List ℕ → Bool
is_set_name text = nat_le (length text) set_name_limit
    && (is_any_set text || (is_name_of_kind AsSet text || is_name_of_kind RouteSet text))

-- A component is printed in upper case, an AS number without leading zeros (profile).
abbrev pub component_text : List ℕ → List ℕ
component_text component = option_map_or as_number_text (as_number_of component) (upper component)

-- A set's name is printed as its components, each as it is printed, with colons between them
-- (profile).
unfoldable pub set_text : List ℕ → List ℕ
set_text text = join_with_byte 58 (map component_text (components text))

-- The set's name that a text spells, as it is printed, if it spells one (RFC 2622, 5).
abbrev pub set_name_of : List ℕ → Option (List ℕ)
set_name_of text = if is_set_name text then Some (set_text text) else None

-- A set's name as it is kept: it spells a set's name, and is as it is printed (profile).
pub record IsSetText (text : List ℕ) : Type 0 where
  pub spelled : is_set_name text ≡ true
  pub printed : set_text text ≡ text

-- Whether a set's name, as it is printed, has a component that begins as the words of a kind do.
abbrev pub has_word_start : SetKind → List ℕ → Bool
has_word_start kind text =
    list_any (λ component. starts_with nat_eq component (word_start kind)) (components text)

-- A set is an as-set where a component of its name begins with `AS-` (RFC 2622, 5).
abbrev pub is_as_set : List ℕ → Bool
is_as_set text = has_word_start AsSet text

-- The kind of the set that a name names: an as-set where a component begins with `AS-`, and else a
-- route-set (RFC 2622, 5).
abbrev pub kind_of : List ℕ → SetKind
kind_of text = if is_as_set text then AsSet else RouteSet
