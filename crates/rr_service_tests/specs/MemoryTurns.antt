-- What connections over memory tell (profile): for `MemoryPeers`.
use Rattle.std.specs.Prelude.{◌≡◌, ℕ, ◌+◌, Bool, List, ◌∷◌, ◌++◌, Option}
use Rattle.std.specs.Prelude.{Some, is_some}
use Rattle.std.specs.Prelude.{drop, length, map, max, replicate}
use Rattle.std.specs.Option.{option_map}
use Rattle.rr_io.specs.declared.cutting.Cut.{Cut}
use Rattle.rr_io.specs.declared.joining.Joined.{Joined}
use Rattle.rr_io.specs.Cut.{cut_left, cut_step}
use Rattle.rr_io.specs.Joined.{joined_reader, joined_writer}
use Rattle.rr_io.specs.Told.{Told}
use Rattle.rr_service_tests.specs.declared.memory_peers.MemoryInput.{MemoryInput}
use Rattle.rr_service_tests.specs.declared.memory_peers.MemoryTurn.{MemoryTurn}
use Rattle.rr_service_tests.specs.declared.memory_peers.MemoryPeers.{MemoryPeers}
use Rattle.rr_desk.specs.Turns.{Tally, Turn, closed, unaccepted}

-- the connections that are still to come
abbrev pub inputs_left : MemoryPeers → List MemoryInput
inputs_left peers = drop peers.next peers.inputs.now

-- a reader or a writer passes at most `many` bytes in a call, one where that is none, and fails in
-- each call once `end` bytes passed
pub record IsCutAt (many end : ℕ) {T : Type 0} (cut : Cut T) : Type 0 where
  pub step : cut_step cut ≡ max many 1
  pub left : cut_left cut ≡ end

-- a connection is what an input says: its reader has the bytes of the input, and both of its sides
-- are cut as the input has it
pub record IsOfInput (input : MemoryInput) {R W : Type 0} (conn : Joined (Cut R) (Cut W))
    (reader : Told) : Type 0 where
  pub bytes : reader.bytes ≡ Some input.bytes.now
  pub reads : IsCutAt input.step input.reads_end (joined_reader conn)
  pub writes : IsCutAt input.step input.writes_end (joined_writer conn)

-- the first of the inputs that were left was accepted, and the others are left
pub record AcceptsNext (before after : List MemoryInput) {R W : Type 0}
    (conn : Joined (Cut R) (Cut W)) (reader : Told) : Type 0 where
  pub input : MemoryInput
  pub is_next : before ≡ input ∷ after
  pub is_of_it : IsOfInput input conn reader

-- the connections that are closed, in order
abbrev pub turns_closed : MemoryPeers → List MemoryTurn
turns_closed peers = peers.turns.items

-- how many accepts found no connection
abbrev pub failed_accepts : MemoryPeers → ℕ
failed_accepts peers = peers.failed_accepts

-- a connection was accepted, and is not closed yet
abbrev pub is_open : MemoryPeers → Bool
is_open peers = is_some peers.given

-- the bytes that the open connection had to give; none where none is open
abbrev pub open_bytes : MemoryPeers → Option (List ℕ)
open_bytes peers = option_map (λ given. given.now) peers.given

-- a connection that is closed, with the bytes that it had to give and those that it was answered
abbrev pub memory_turn : MemoryTurn → Turn
memory_turn turn = closed (Some turn.given.now) (Some turn.answered.items)

-- the turns of connections over memory: those that are closed, and after them the accepts that
-- found none
abbrev pub memory_told : MemoryPeers → Option (List Turn)
memory_told peers =
    Some (map memory_turn peers.turns.items ++ replicate peers.failed_accepts unaccepted)

-- how many turns of connections over memory there were
abbrev pub turns_counted : MemoryPeers → ℕ
turns_counted peers = length peers.turns.items + peers.failed_accepts

-- what connections over memory count and tell: their turns, and the bytes of those that are still
-- to come
abbrev pub memory_tally : MemoryPeers → Tally
memory_tally peers = record {
  turns = turns_counted peers;
  told = memory_told peers;
  waiting = Some (map (λ input. input.bytes.now) (inputs_left peers));
}
