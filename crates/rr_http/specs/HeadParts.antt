-- What private functions that read a head promise each other. No public clause cites these.
use Rattle.std.specs.Prelude.{◌≡◌, ℕ, ◌<◌, ◌⊎◌, List, ◌++◌, length, Option}
use Rattle.std.specs.Prelude.{None, Some}
use Rattle.std.specs.Prelude.{nat_le, position}
use Rattle.rr_bytes.specs.Blanks.{is_line_feed}
use Rattle.rr_io.specs.Told.{Told}
use Rattle.rr_io.specs.Receiving.{BreaksOff, Gives, IsSpent}
use Rattle.rr_http.specs.declared.heads.Goal.{Goal}
use Rattle.rr_http.specs.declared.heads.Goal.TheVariants.{Line, EmptyLine}
use Rattle.rr_http.specs.declared.heads.Head.{Head}
use Rattle.rr_http.specs.declared.heads.Head.TheVariants.{Http, Refused}
use Rattle.rr_http.specs.declared.heads.TheConstants.{HEAD_LIMIT}
use Rattle.rr_http.specs.Heads.{head_length}
use Rattle.rr_http.specs.Wants.{unended}

-- where a text has what it is read for, if it does: the LF of its first line, or the end of the
-- head of a request
abbrev pub goal_place : Goal → List ℕ → Option ℕ
goal_place Line text = position is_line_feed text
goal_place EmptyLine text = head_length text

-- a text does not have what it is read for, and has room for more
pub record IsUnfinished (goal : Goal) (room : ℕ) (text : List ℕ) : Type 0 where
  pub unreached : goal_place goal text ≡ None
  pub room_left : length text < room

-- a read failed while a text was read on, which was not finished then
abbrev pub BreaksOn : Goal → ℕ → Told → Told → List ℕ → Type 0
BreaksOn goal room old new before =
    (more : List ℕ) × BreaksOff old new more × IsUnfinished goal room (before ++ more)

-- a text was read on until it has what it is read for, fills its room, or ended with the input
pub record ReadsOn (goal : Goal) (room : ℕ) (old new : Told) (before text : List ℕ)
    (place : Option ℕ) : Type 0 where
  pub more : List ℕ
  pub gives : Gives old new more
  pub joined : text ≡ before ++ more
  pub is_place : place ≡ goal_place goal text
  pub enough : place ≡ None → (length text ≡ room) ⊎ IsSpent new

-- the head of a request, by where it ends among so many bytes
abbrev pub request_head : ℕ → Option ℕ → Head
request_head count (Some place) = Http place
request_head count None = Refused (unended (nat_le HEAD_LIMIT count))
