-- Two texts with a dash between them, for the keys of inetnums and as-blocks, and the dash of
-- operators.
use Rattle.std.specs.Prelude.{◌≡◌, ℕ, true, List, ◌∷◌, ◌++◌, Option}
use Rattle.std.specs.List.{list_all}
use Rattle.std.specs.Option.{option_map}
use Rattle.rr_bytes.specs.Blanks.{is_blank}
use Rattle.rr_bytes.specs.Cuts.{cut_at}
use Rattle.rr_bytes.specs.Trims.{trim_end, trim_start}

-- The dash, '-': between the ends of a span or a block (profile), and in operators (RFC 2622, 2).
abbrev pub dash : ℕ
dash = 45

-- Two texts stand with a dash between them, which may have blanks (spaces, tabs, CRs) on either
-- side (profile).
pub record IsDashed (text first last : List ℕ) : Type 0 where
  pub before : List ℕ
  pub after : List ℕ
  pub before_blank : list_all is_blank before ≡ true
  pub after_blank : list_all is_blank after ≡ true
  pub spelled : text ≡ first ++ (before ++ (dash ∷ (after ++ last)))

-- the texts round the first dash, without the blanks (spaces, tabs, CRs) beside it, if there is a
-- dash
unfoldable pub dashed_of : List ℕ → Option (List ℕ × List ℕ)
dashed_of text = option_map (λ parts. (trim_end is_blank parts.0, trim_start is_blank parts.1))
    (cut_at dash text)
