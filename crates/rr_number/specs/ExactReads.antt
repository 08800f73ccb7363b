-- What a text is read as, where it spells exactly one value or none: for `read` of addresses, AS
-- numbers, prefixes, spans, blocks and operators, and for `read_ranged`.
use Rattle.std.specs.Prelude.{◌≡◌, ℕ, List, Option, Some, IfSome}

-- A text is read as the one value that it spells, and as nothing where it spells none. That is also
-- what the other definition, `value_of`, finds in the text (RFC 2622, 2, or profile: the definition
-- that stands for `Spells` says which).
pub record ReadsExactly {A : Type 0} (Spells : List ℕ → A → Type 0) (value_of : List ℕ → Option A)
    (text : List ℕ) (read : Option A) : Type 0 where
  pub found : IfSome read (Spells text)
  pub only : (value : A) → Spells text value → read ≡ Some value
  pub exact : read ≡ value_of text
