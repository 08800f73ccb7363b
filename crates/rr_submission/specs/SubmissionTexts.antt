-- What the paragraph of a submission holds beside an object (profile): for `Requests` and
-- `SubmissionItems`.
use Rattle.std.specs.Prelude.{ℕ, Bool, not, List, codes, filter, map}
use Rattle.std.specs.List.{list_all, list_any}
use Rattle.rr_bytes.specs.Parts.{joined_by_space}
use Rattle.rr_text.specs.Fields.{Field, has_name}

-- an attribute is `password`, which gives a secret
abbrev pub is_password : Field → Bool
is_password field = has_name (codes "password") field

-- an attribute is `delete`, which asks for the deletion of the object; its value says nothing
abbrev pub is_delete : Field → Bool
is_delete field = has_name (codes "delete") field

-- the paragraph of the object: all but the attributes `password` and `delete`
abbrev pub own_fields : List Field → List Field
own_fields fields =
    filter (λ field. not (is_delete field)) (filter (λ field. not (is_password field)) fields)

-- a secret is the lines of its value joined by one space, `#` kept
abbrev pub secret_of : Field → List ℕ
secret_of field = joined_by_space field.lines

-- the secrets that a paragraph gives, in order
abbrev pub secrets_of : List Field → List (List ℕ)
secrets_of fields = map secret_of (filter is_password fields)

-- a paragraph of passwords alone is not an item
abbrev pub is_secrets_alone : List Field → Bool
is_secrets_alone fields = list_all is_password fields

-- a paragraph with an attribute `delete` asks for deletion
abbrev pub asks_deletion : List Field → Bool
asks_deletion fields = list_any is_delete fields
