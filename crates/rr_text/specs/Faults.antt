-- What is wrong with a line or a block, the first fault first (RFC 2622, 2; the order: profile):
-- for the entries of a text.
use Rattle.std.specs.Prelude.{ℕ, Bool, true, false, not, List, [], ◌∷◌, Option, Some, None}
use Rattle.std.specs.Prelude.{if◌then◌else◌}
use Rattle.std.specs.List.{list_any, before_first}
use Rattle.std.specs.Option.{option_or}
use Rattle.rr_text.specs.declared.text_fault.TextFault.{TextFault}
use Rattle.rr_text.specs.declared.text_fault.TextFault.TheVariants.{BadByte, FirstContinues}
use Rattle.rr_text.specs.declared.text_fault.TextFault.TheVariants.{NoColon, BadName}
use Rattle.rr_text.specs.declared.line.LineKind.{LineKind}
use Rattle.rr_text.specs.declared.line.LineKind.TheVariants.{Blank, Skipped, Continuation, Opening}
use Rattle.rr_bytes.specs.Blanks.{is_blank_or_line_feed}
use Rattle.rr_bytes.specs.NameBytes.{is_attribute_name}
use Rattle.rr_bytes.specs.Trims.{trim_end}
use Rattle.rr_text.specs.Bytes.{is_refused, is_colon}
use Rattle.rr_text.specs.Lines.{line_kind}

-- the name that a line opens with: what stands before its first colon, less the blanks after it
-- (RFC 2622, 2; the blanks: profile)
abbrev pub written_name : List ℕ → List ℕ
written_name line = trim_end is_blank_or_line_feed (before_first is_colon line)

-- the fault of a line that opens an attribute: that it has no colon, or else that no attribute's
-- name stands before the colon; else none (RFC 2622, 2)
unfoldable pub opening_fault : List ℕ → Option TextFault
opening_fault line =
    if not (list_any is_colon line) then Some NoColon
    else (if not (is_attribute_name (written_name line)) then Some BadName else None)

-- a continuation has a fault where it is the first line of a block, and only there (RFC 2622, 2)
abbrev pub continuation_fault : Bool → Option TextFault
continuation_fault is_first = if is_first then Some FirstContinues else None

-- the first fault of a line of a kind: a refused byte comes before the others, and a blank or
-- skipped line has none (profile)
abbrev pub fault_by_kind : Bool → List ℕ → LineKind → Option TextFault
fault_by_kind is_first line Blank = None
fault_by_kind is_first line Skipped = None
fault_by_kind is_first line Continuation =
    if list_any is_refused line then Some BadByte else continuation_fault is_first
fault_by_kind is_first line Opening =
    if list_any is_refused line then Some BadByte else opening_fault line

-- the first fault of a line, which is the first of its block or not; if it has one
unfoldable pub line_fault : Bool → List ℕ → Option TextFault
line_fault is_first line = fault_by_kind is_first line (line_kind line)

-- the first fault of lines that do not begin a block
unfoldable pub later_fault : List (List ℕ) → Option TextFault
later_fault [] = None
later_fault (line ∷ others) = option_or (line_fault false line) (later_fault others)

-- the fault of the first faulty line of a block (profile)
unfoldable pub block_fault : List (List ℕ) → Option TextFault
block_fault [] = None
block_fault (line ∷ others) = option_or (line_fault true line) (later_fault others)
