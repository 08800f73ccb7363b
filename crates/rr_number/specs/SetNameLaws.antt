-- How the names of sets, their spellings and their kinds go together: laws of `src/laws.rt`.
use Rattle.std.specs.Prelude.{◌≡◌, ℕ, true, false, List, [], ◌∷◌, ◌++◌, map, Some}
use Rattle.rr_bytes.specs.LetterCase.{upper}
use Rattle.rr_number.specs.Parents.{parent_text}
use Rattle.rr_number.specs.SetNames.{component_text, components, is_any_set, is_name_of_kind}
use Rattle.rr_number.specs.SetNames.{kind_of, set_name_of, IsSetText}

-- The name of a set is read again from its printed text.
abbrev pub SetNamesAreReadAgain : Type 0
SetNamesAreReadAgain = (name : List ℕ) → IsSetText name → set_name_of name ≡ Some name

-- Texts that differ in letter case alone spell one name.
abbrev pub SetNamesIgnoreCase : Type 0
SetNamesIgnoreCase = (a b : List ℕ) → upper a ≡ upper b → set_name_of a ≡ set_name_of b

-- The components of what is read are those of the spelling, each as it is printed.
abbrev pub ComponentsArePrinted : Type 0
ComponentsArePrinted =
    (text name : List ℕ) → set_name_of text ≡ Some name
    → components name ≡ map component_text (components text)

-- A set other than `AS-ANY` and `RS-ANY` has a name of its kind.
abbrev pub KindsAreTold : Type 0
KindsAreTold =
    (name : List ℕ) → IsSetText name → is_any_set name ≡ false
    → is_name_of_kind (kind_of name) name ≡ true

-- The components of a name are those of its parent, and one more after them.
abbrev pub ParentsLackTheLast : Type 0
ParentsLackTheLast =
    (name parent : List ℕ) → parent_text name ≡ Some parent
    → (last : List ℕ) × (components name ≡ components parent ++ (last ∷ []))
