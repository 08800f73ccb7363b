-- Attributes that are printed, also with other values: for `printing` and `print_onto_with_values`.
use Rattle.std.proofs.Common.{◌≡◌, ℕ, ◌≤◌, List, ◌++◌, length, map, take, drop, ap, sym, ◌∙◌}
use Rattle.std.proofs.Common.{append_assoc}
use Rattle.std.specs.Io.{StartsWith}
use Rattle.std.specs.List.{flat_map}
use Rattle.std.proofs.Math.Seq.{take-append_seam}
use Rattle.std.proofs.lemmas.List.{take_all, take-append-drop}
use Rattle.std.proofs.lemmas.List.Folds.{flat_map-map}
use Rattle.rr_text.specs.CanonicalText.{canonical, field_text}
use Rattle.rr_text.specs.Fields.{Field, with_value}

text_with_values : (name line : List ℕ) (fields : List Field)
    → canonical (map (with_value name line) fields) ≡ flat_map
    (λ field. field_text (with_value name line field)) fields
unfolding canonical
text_with_values name line fields = flat_map-map field_text (with_value name line) fields

-- what was printed of all attributes with these values is their canonical text
pub all_printed : (name line : List ℕ) (fields listed : List Field) (i : ℕ) (before out : List ℕ) →
    listed ≡ fields → length listed ≤ i
    → out ≡ before ++ flat_map (λ field. field_text (with_value name line field)) (take i listed) →
    out ≡ before ++ canonical (map (with_value name line) fields)
all_printed name line fields listed i before out same past printed =
    printed ∙ ap (λ (rest : List Field).
    before ++ flat_map (λ field. field_text (with_value name line field)) rest)
    (take_all i listed past ∙ same)
    ∙ ap (λ text. before ++ text) (sym (text_with_values name line fields))

-- a text starts with what it was before more was appended
pub starts_more : (old more new : List ℕ) → new ≡ old ++ more → StartsWith new old
starts_more old more new added = ap (λ text. take (length old) text) added ∙ take-append_seam old
    more

pub starts_then : (old between new : List ℕ) → StartsWith between old → StartsWith new between →
    StartsWith new old
starts_then old between new first then =
    let some = drop (length old) between in
    let more = drop (length between) new in
    let prefix : between ≡ old ++ some = sym (take-append-drop (length old) between)
    ∙ ap (λ text. text ++ some) first in
    let whole : new ≡ between ++ more = sym (take-append-drop (length between) new)
    ∙ ap (λ text. text ++ more) then in
    starts_more old (some ++ more) new
    (whole ∙ (ap (λ text. text ++ more) prefix ∙ append_assoc old some more))
