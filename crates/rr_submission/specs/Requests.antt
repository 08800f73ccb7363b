-- What a paragraph of a submission asks, or the code with which it is refused (profile): for
-- `SubmissionItems`.
use Rattle.std.specs.Prelude.{◌≡◌, ℕ, Bool, true, false, List, Some, None, Result, Ok, Err}
use Rattle.std.specs.Prelude.{IfSome, Option, ◌⊎◌}
use Rattle.rr_io.specs.declared.receiving.ReadEnd.{ReadEnd}
use Rattle.rr_io.specs.declared.receiving.ReadEnd.TheVariants as end
use Rattle.rr_text.specs.Fields.{Field}
use Rattle.rr_text.specs.declared.text_fault.TextFault.{TextFault}
use Rattle.rr_text.specs.declared.text_fault.TextFault.TheVariants.{TooLarge, BadByte}
use Rattle.rr_text.specs.declared.text_fault.TextFault.TheVariants.{FirstContinues, NoColon}
use Rattle.rr_text.specs.declared.text_fault.TextFault.TheVariants.{BadName, Memory, Read, Endless}
use Rattle.rr_object.specs.declared.code.Code.{Code}
use Rattle.rr_object.specs.declared.code.Code.TheVariants.{E01, E07, E90}
use Rattle.rr_object.specs.declared.object_fault.ObjectFault.{ObjectFault}
use Rattle.rr_object.specs.declared.key.Key.{Key}
use Rattle.rr_object.specs.Faults.{code_of}
use Rattle.rr_object.specs.KeySpellings.{key_of}
use Rattle.rr_object.specs.Objects.{Obj}
use Rattle.rr_object.specs.Readings.{object_of}
use Rattle.rr_auth.specs.declared.item.Item.{Item}
use Rattle.rr_auth.specs.declared.item.Item.TheVariants.{Submit, Delete}
use Rattle.rr_submission.specs.SubmissionTexts.{own_fields, asks_deletion}

-- the code of a paragraph that could not be read as text; a fault that is none of a paragraph ends
-- the reading
abbrev pub text_code : TextFault → Result Code ReadEnd
text_code TooLarge = Ok E07
text_code BadByte = Ok E01
text_code FirstContinues = Ok E01
text_code NoColon = Ok E01
text_code BadName = Ok E01
text_code Memory = Ok E90
text_code Read = Err end.Broken
text_code Endless = Err end.Endless

-- what is asked: the key that the report shows, if it was read, and the item, or the code with
-- which it is refused
pub record Asked : Type 0 where
  pub key : Option Key
  pub action : Result Item Code

-- refused before its class and key were read: the report shows no key
abbrev pub unread : Code → Asked
unread code = record { key = None; action = Err code }

-- an object is submitted, or refused with the code of its first fault, in the order in which faults
-- are judged
abbrev pub submitted_object : Result Obj ObjectFault → Result Item Code
submitted_object (Ok object) = Ok (Submit object)
submitted_object (Err fault) = Err (code_of fault)

-- what is asked about the object of a key: its deletion, or that it be as the paragraph says
abbrev pub action_of : List ℕ → List Field → Key → Bool → Result Item Code
action_of source own key true = Ok (Delete key)
action_of source own key false = submitted_object (object_of own source)

-- what a paragraph asks whose key was read, or the refusal if its key was not read
abbrev pub request_of_key : List ℕ → List Field → Bool → Result Key ObjectFault → Asked
request_of_key source own deletes (Err fault) = unread (code_of fault)
request_of_key source own deletes (Ok key) =
    record { key = Some key; action = action_of source own key deletes }

-- what a paragraph asks of a registry of this source: its attributes `password` and `delete` are
-- not part of the object
unfoldable pub request_of : List ℕ → List Field → Asked
request_of source fields =
    request_of_key source (own_fields fields) (asks_deletion fields) (key_of (own_fields fields))

-- memory ran out: the item is refused with E90, and a key that it shows is that of its paragraph
pub record LacksMemory (fields : List Field) (request : Asked) : Type 0 where
  pub refused : request.action ≡ Err E90
  pub shown : IfSome request.key (λ key. key_of (own_fields fields) ≡ Ok key)

-- a reading of what a paragraph asks: exactly that, or memory ran out
abbrev pub IsRequest : List ℕ → List Field → Asked → Type 0
IsRequest source fields request =
    (request ≡ request_of source fields) ⊎ LacksMemory fields request
