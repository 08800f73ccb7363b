-- An entry has no fault of a reader: for `draft`.
use Rattle.std.proofs.Common.{◌≡◌, ◌≢◌, ℕ, ◌<◌, Bool, true, false, not, List, [], ◌∷◌, length}
use Rattle.std.proofs.Common.{Option, Some, None, Result, Ok, Err, IfOk, IfErr, refl, sym, ap, ◌∙◌}
use Rattle.std.proofs.Common.{nat_lt, if◌then◌else◌}
use Rattle.std.specs.List.{list_any, concat}
use Rattle.std.specs.Option.{option_or}
use Rattle.rr_text.specs.declared.text_fault.TextFault.{TextFault}
use Rattle.rr_text.specs.declared.text_fault.TextFault.TheVariants.{TooLarge, BadByte}
use Rattle.rr_text.specs.declared.text_fault.TextFault.TheVariants.{FirstContinues, NoColon}
use Rattle.rr_text.specs.declared.text_fault.TextFault.TheVariants.{BadName, Memory, Read, Endless}
use Rattle.rr_text.specs.declared.line.LineKind.{LineKind}
use Rattle.rr_text.specs.declared.line.LineKind.TheVariants.{Blank, Skipped, Continuation, Opening}
use Rattle.rr_bytes.specs.NameBytes.{is_attribute_name}
use Rattle.rr_text.specs.Bytes.{is_colon, is_refused}
use Rattle.rr_text.specs.Lines.{line_kind}
use Rattle.rr_text.specs.Faults.{written_name, opening_fault, fault_by_kind, line_fault}
use Rattle.rr_text.specs.Faults.{later_fault, block_fault}
use Rattle.rr_text.specs.Fields.{Field, AreFields}
use Rattle.rr_text.specs.Entries.{entries, block_entry, block_fields, unless_fault, size_limit}
use Rattle.rr_text.specs.DraftParts.{GivesOne}

-- whether a fault is of the reading itself
abbrev pub is_of_reading : TextFault → Bool
is_of_reading TooLarge = false
is_of_reading BadByte = false
is_of_reading FirstContinues = false
is_of_reading NoColon = false
is_of_reading BadName = false
is_of_reading Memory = false
is_of_reading Read = true
is_of_reading Endless = true

abbrev pub has_fault_of_reading : Option TextFault → Bool
has_fault_of_reading None = false
has_fault_of_reading (Some fault) = is_of_reading fault

opening_by : (t u : Bool) → has_fault_of_reading
    (if t then Some NoColon else (if u then Some BadName else None)) ≡ false
opening_by true u = refl
opening_by false true = refl
opening_by false false = refl

opening_none : (line : List ℕ) → has_fault_of_reading (opening_fault line) ≡ false
unfolding opening_fault
opening_none line = opening_by (not (list_any is_colon line))
    (not (is_attribute_name (written_name line)))

continues_by : (t u : Bool) → has_fault_of_reading
    (if t then Some BadByte else (if u then Some FirstContinues else None)) ≡ false
continues_by true u = refl
continues_by false true = refl
continues_by false false = refl

opens_by : (t : Bool) (line : List ℕ) → has_fault_of_reading
    (if t then Some BadByte else opening_fault line) ≡ false
opens_by true line = refl
opens_by false line = opening_none line

kind_none : (first : Bool) (line : List ℕ) (kind : LineKind) → has_fault_of_reading
    (fault_by_kind first line kind) ≡ false
kind_none first line Blank = refl
kind_none first line Skipped = refl
kind_none first line Continuation = continues_by (list_any is_refused line) first
kind_none first line Opening = opens_by (list_any is_refused line) line

line_none : (first : Bool) (line : List ℕ) → has_fault_of_reading (line_fault first line) ≡ false
unfolding line_fault
line_none first line = kind_none first line (line_kind line)

or_else : (a b : Option TextFault) → has_fault_of_reading a ≡ false → has_fault_of_reading b
    ≡ false → has_fault_of_reading (option_or a b) ≡ false
or_else None b h k = k
or_else (Some fault) b h k = h

later_none : (lines : List (List ℕ)) → has_fault_of_reading (later_fault lines) ≡ false
unfolding later_fault
later_none [] = refl
later_none (line ∷ others) = or_else (line_fault false line) (later_fault others)
    (line_none false line) (later_none others)

block_none : (lines : List (List ℕ)) → has_fault_of_reading (block_fault lines) ≡ false
unfolding block_fault
block_none [] = refl
block_none (line ∷ others) = or_else (line_fault true line) (later_fault others)
    (line_none true line) (later_none others)

unless_none : (told : Option TextFault) (fields : List Field) (fault : TextFault) →
    has_fault_of_reading told ≡ false → unless_fault told fields ≡ Err fault → is_of_reading fault
    ≡ false
unless_none None fields fault h e = cc
unless_none (Some other) fields fault h e = let same : other ≡ fault = cc in
    ap is_of_reading (sym same) ∙ h

entry_by : (t : Bool) (lines : List (List ℕ)) (fault : TextFault) →
    (if t then Err TooLarge else unless_fault (block_fault lines) (block_fields lines)) ≡ Err fault
    → is_of_reading fault ≡ false
entry_by true lines fault e = let same : TooLarge ≡ fault = cc in ap is_of_reading (sym same)
entry_by false lines fault e = unless_none (block_fault lines) (block_fields lines) fault
    (block_none lines) e

-- the fault of a block is one of its text
pub entry_fault : (lines : List (List ℕ)) (fault : TextFault) → block_entry lines ≡ Err fault →
    is_of_reading fault ≡ false
unfolding block_entry
entry_fault lines fault e = entry_by (nat_lt size_limit (length (concat lines))) lines fault e

no_reading : (lines : List (List ℕ)) (fault : TextFault) → is_of_reading fault ≡ true →
    block_entry lines ≡ Err fault → ⊥
no_reading lines fault told e = let none : is_of_reading fault ≡ false = entry_fault lines fault e
    in cc

told_fault : (text : List ℕ) (lines : List (List ℕ)) (fault : TextFault) → entries text
    ≡ block_entry lines ∷ [] → block_entry lines ≡ Err fault → entries text ≡ Err fault ∷ []
told_fault text lines fault one e = one ∙ ap (λ entry. entry ∷ []) e

fault_one : (text : List ℕ) (lines : List (List ℕ)) (fault : TextFault) → entries text
    ≡ block_entry lines ∷ [] → (fault ≢ Memory → block_entry lines ≡ Err fault) →
    GivesOne text (Err fault)
fault_one text lines TooLarge one h = told_fault text lines TooLarge one (h (λ e. cc))
fault_one text lines BadByte one h = told_fault text lines BadByte one (h (λ e. cc))
fault_one text lines FirstContinues one h = told_fault text lines FirstContinues one (h (λ e. cc))
fault_one text lines NoColon one h = told_fault text lines NoColon one (h (λ e. cc))
fault_one text lines BadName one h = told_fault text lines BadName one (h (λ e. cc))
fault_one text lines Memory one h = (block_entry lines, one)
fault_one text lines Read one h = no_reading lines Read refl (h (λ e. cc))
fault_one text lines Endless one h = no_reading lines Endless refl (h (λ e. cc))

-- the entry of a text with one block
pub gives_one : (text : List ℕ) (lines : List (List ℕ)) (read : Result (List Field) TextFault) →
    entries text ≡ block_entry lines ∷ []
    → IfOk read (λ fields. (0 < length fields) × AreFields fields
    × (block_entry lines ≡ Ok fields)) → IfErr read (λ fault. fault ≢ Memory →
    block_entry lines ≡ Err fault) → GivesOne text read
gives_one text lines (Ok fields) one ok err = (one ∙ ap (λ entry. entry ∷ []) ok.2, ok.0, ok.1)
gives_one text lines (Err fault) one ok err = fault_one text lines fault one err
