-- What is true of texts and their entries: laws of `src/laws.rt`.
use Rattle.std.specs.Prelude.{ℕ, true, ◌≡◌, ◌↔◌, ◌<◌, ◌≤◌, length, List, []}
use Rattle.std.specs.Prelude.{◌∷◌, ◌++◌, Ok}
use Rattle.rr_text.specs.Lines.{are_whole_lines, IsWholeLine, is_blank_line, is_skipped_line}
use Rattle.rr_text.specs.Fields.{Field, AreFields, fields_eq}
use Rattle.rr_text.specs.Entries.{entries, size_limit}
use Rattle.rr_text.specs.CanonicalText.{canonical}
use Rattle.rr_text.specs.WholePart.{whole_part, whole_entries}

-- two paragraphs of well-formed attributes with the same canonical text are the same, whatever the
-- size of that text
abbrev pub CanonicalDetermines : Type 0
CanonicalDetermines =
    (a b : List Field) → AreFields a → AreFields b → canonical a ≡ canonical b → a ≡ b

-- two paragraphs of well-formed attributes compare as equal exactly where they have the same
-- canonical text
abbrev pub EqualAsPrinted : Type 0
EqualAsPrinted = (a b : List Field) → AreFields a → AreFields b
    → (fields_eq a b ≡ true) ↔ (canonical a ≡ canonical b)

-- canonical text of at most 65,536 bytes, of a paragraph with at least one attribute, all well
-- formed, spells this paragraph alone
abbrev pub CanonicalSpells : Type 0
CanonicalSpells = (fields : List Field) → 0 < length fields → AreFields fields
    → length (canonical fields) ≤ size_limit → entries (canonical fields) ≡ Ok fields ∷ []

-- lines that all end in an LF, a blank line with its LF and what follows spell the entries of the
-- lines, and then those of what follows
abbrev pub BlankLineJoins : Type 0
BlankLineJoins = (prefix blank back : List ℕ) → are_whole_lines prefix ≡ true
    → IsWholeLine blank → is_blank_line blank ≡ true
    → entries (prefix ++ (blank ++ back)) ≡ entries prefix ++ entries back

-- take canonical text of at most 65,536 bytes, of a paragraph with at least one attribute, all well
-- formed. With an empty line after it, it puts this paragraph before the entries of what follows
abbrev pub CanonicalLeads : Type 0
CanonicalLeads = (fields : List Field) (rest : List ℕ) → 0 < length fields → AreFields fields
    → length (canonical fields) ≤ size_limit
    → entries (canonical fields ++ 10 ∷ rest) ≡ Ok fields ∷ entries rest

-- a skipped line with the LF that ends it, before a text, adds nothing to what the text spells
abbrev pub SkippedLinePassed : Type 0
SkippedLinePassed = (line rest : List ℕ) → IsWholeLine line → is_skipped_line line ≡ true
    → entries (line ++ rest) ≡ entries rest

-- a text that is empty, or ends with the LF of a blank line, and what follows spell the entries of
-- the text, and then those of what follows. Where what follows breaks off, this is true with those
-- of its entries that then count
abbrev pub ClosedTextJoins : Type 0
ClosedTextJoins = (prefix back : List ℕ) → whole_part prefix ≡ prefix
    → (entries (prefix ++ back) ≡ entries prefix ++ entries back)
    × (whole_entries (prefix ++ back) ≡ entries prefix ++ whole_entries back)
