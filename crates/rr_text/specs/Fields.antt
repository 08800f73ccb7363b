-- An attribute as plain data, and what is true of each (RFC 2622, 2): contracts see paragraphs as
-- lists of these.
use Rattle.std.specs.Prelude.{ℕ, Bool, true, not, ◌&&◌, ◌≡◌, ◌<◌, length, List, []}
use Rattle.std.specs.Prelude.{◌∷◌, if◌then◌else◌}
use Rattle.std.specs.List.{list_any, AllByRecursion}
use Rattle.std.specs.Str.{bytes_eq}
use Rattle.std.specs.Cmp.Lexicographic.{pointwise}
use Rattle.rr_bytes.specs.Blanks.{is_blank_or_line_feed, is_line_feed}
use Rattle.rr_bytes.specs.LetterCase.{lowered}
use Rattle.rr_bytes.specs.NameBytes.{is_attribute_name}
use Rattle.rr_bytes.specs.Trims.{trim}
use Rattle.rr_text.specs.Bytes.{is_refused}

-- an attribute: its name, and its value as a list of lines
pub record Field : Type 0 where
  pub name : List ℕ
  pub lines : List (List ℕ)

-- an attribute with a value of one line
abbrev pub one_line : List ℕ → List ℕ → Field
one_line name line = record { name = name; lines = line ∷ [] }

-- a line of a value is well formed: it has no blanks round it, no LF and no refused byte
pub record IsLine (line : List ℕ) : Type 0 where
  pub trimmed : trim is_blank_or_line_feed line ≡ line
  pub unbroken : not (list_any is_line_feed line) ≡ true
  pub clean : not (list_any is_refused line) ≡ true

-- an attribute is well formed: its name is an attribute's name in lower case, and its value has at
-- least one line, each well formed
pub record IsField (field : Field) : Type 0 where
  pub named : is_attribute_name field.name ≡ true
  pub lower : lowered field.name ≡ field.name
  pub some : 0 < length field.lines
  pub good : AllByRecursion IsLine field.lines

-- each attribute of a list is well formed, in its name and in the lines of its value
abbrev pub AreFields : List Field → Type 0
AreFields fields = AllByRecursion IsField fields

-- an attribute has exactly this name; names are kept in lower case
abbrev pub has_name : List ℕ → Field → Bool
has_name name field = bytes_eq field.name name

-- an attribute with this line as its value if it has this name, and else as it is
abbrev pub with_value : List ℕ → List ℕ → Field → Field
with_value name line field =
    if has_name name field then record { name = field.name; lines = line ∷ [] } else field

-- whether two attributes are equal
abbrev pub field_eq : Field → Field → Bool
field_eq a b = bytes_eq a.name b.name && pointwise bytes_eq a.lines b.lines

-- whether two lists of attributes are equal
abbrev pub fields_eq : List Field → List Field → Bool
fields_eq = pointwise field_eq
