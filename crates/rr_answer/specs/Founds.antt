-- What queries find, as it is answered: for `find_for` and `Findings::write`.
use Rattle.std.specs.Prelude.{ℕ, List}
use Rattle.std.specs.List.{flat_map}
use Rattle.rr_number.specs.Applied.{range_text}
use Rattle.rr_number.specs.AsNumbers.{as_number_text}
use Rattle.rr_text.specs.CanonicalText.{canonical, ended}
use Rattle.rr_text.specs.Fields.{Field}
use Rattle.rr_answer.specs.declared.found.Findings.{Findings}
use Rattle.rr_answer.specs.declared.found.Findings.TheVariants.{Objects, Numbers, Ranges}
use Rattle.rr_answer.specs.declared.form.Form.{Form}
use Rattle.rr_answer.specs.declared.form.Form.TheVariants.{Kept, Made}
use Rattle.rr_answer.specs.Texts.{members_text, no_entries, or_else}

-- The paragraph that is answered where an object stands (profile).
abbrev pub shown : Form → List Field
shown (Kept paragraph) = paragraph.now
shown (Made paragraph) = paragraph.value

-- The canonical text of the paragraph that is answered where an object stands, and an empty line
-- (profile).
abbrev pub form_text : Form → List ℕ
form_text form = ended (canonical (shown form))

-- The text of what was found: of each object, or of the members of a set and the missing names; a
-- line says so where there is nothing (profile).
abbrev pub found_text : Findings → List ℕ
found_text (Objects forms) = or_else no_entries (flat_map form_text forms.items)
found_text (Numbers members) =
    members_text as_number_text members.found.items members.missing.items
found_text (Ranges members) = members_text range_text members.found.items members.missing.items
