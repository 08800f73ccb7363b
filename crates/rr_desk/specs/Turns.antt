-- The turns of a listener, and what serving the connections of them does (profile): for `Peers`,
-- `Service` and `serve_all`.
use Rattle.std.specs.Prelude.{◌≡◌, ℕ, ◌+◌, Bool, false, not, is_ok, Result, length, map}
use Rattle.std.specs.Prelude.{count_by}
use Rattle.std.specs.Prelude.{List, [], ◌∷◌, ◌++◌, Option, None, Some, slice_get}
use Rattle.std.specs.Option.{option_map}
use Rattle.sqlite_trees.specs.declared.store.Store.{Ghosts}
use Rattle.rr_io.specs.declared.streams.Reader as readers
use Rattle.rr_io.specs.declared.streams.Writer as writers
use Rattle.rr_io.specs.Told.{Told, set_beside}
use Rattle.rr_desk.specs.declared.desk.Desk.{Desk}
use Rattle.rr_desk.specs.declared.peers.ConnFault.{ConnFault}
use Rattle.rr_desk.specs.Desks.{desk_state}
use Rattle.rr_desk.specs.Stocks.{DatabaseLasts, StoresUntilStopped}

-- a turn, as a listener tells it: no connection could be accepted, or one was and is closed, whose
-- reader told these bytes when it was accepted, and whose writer these when it was closed; `None`
-- stands for bytes that are not told, as over a socket (profile)
pub data Turn : Type 0 where
  unaccepted : Turn
  closed : Option (List ℕ) → Option (List ℕ) → Turn

-- what a listener counts and tells: how many turns there were; these turns in their order, and the
-- bytes of each connection that is to come, in order, where it tells them (profile)
pub record Tally : Type 0 where
  pub turns : ℕ
  pub told : Option (List Turn)
  pub waiting : Option (List (List ℕ))

-- a connection that was accepted: no call of it has failed, and nothing was written to it, where
-- what is written is told
pub record IsFresh (reader writer : Told) : Type 0 where
  pub no_failed_read : reader.faults ≡ 0
  pub no_failed_write : writer.faults ≡ 0
  pub unwritten : (xs : List ℕ) → writer.bytes ≡ Some xs → xs ≡ []

-- the turns that are told, with one more where any are told
abbrev pub with_turn : Option (List Turn) → Turn → Option (List Turn)
with_turn told turn = option_map (λ turns. turns ++ turn ∷ []) told

-- where connections to come are told, the one accepted is the first of them, and the others are
-- still to come; none is accepted just where none is to come. Where they are not told, they stay
-- untold
abbrev pub IsNextTurn : Option (Option (List ℕ)) → Option (List (List ℕ))
    → Option (List (List ℕ))
    → Type 0
IsNextTurn accepted None after = after ≡ None
IsNextTurn None (Some []) after = after ≡ Some []
IsNextTurn None (Some (bytes ∷ rest)) after = ⊥
IsNextTurn (Some told) (Some []) after = ⊥
IsNextTurn (Some told) (Some (bytes ∷ rest)) after = (told ≡ Some bytes) × (after ≡ Some rest)

-- a connection was accepted: it is fresh, the next one, and its reader tells the bytes that are
-- noted as given. It is no turn yet: those that are counted and told stay
pub record IsAccepted (before after : Tally) (given : Option (List ℕ)) (reader writer : Told)
    : Type 0 where
  pub fresh : IsFresh reader writer
  pub is_given : given ≡ reader.bytes
  pub counted : after.turns ≡ before.turns
  pub told : after.told ≡ before.told
  pub is_next : IsNextTurn (Some reader.bytes) before.waiting after.waiting

-- a turn was taken, and is told where turns are told
pub record CountsTurn (turn : Turn) (before after : Tally) : Type 0 where
  pub counted : after.turns ≡ before.turns + 1
  pub told : after.told ≡ with_turn before.told turn

-- no connection could be accepted, which is a turn; where those to come are told, there is none
pub record IsUnaccepted (before after : Tally) : Type 0 where
  pub counts : CountsTurn unaccepted before after
  pub is_next : IsNextTurn None before.waiting after.waiting

-- a connection was closed, which is a turn, told where turns are told with the bytes that are noted
-- as given and those that it was answered; the connections that are to come stay
pub record ClosesConnection (given answered : Option (List ℕ)) (before after : Tally) : Type 0 where
  pub counts : CountsTurn (closed given answered) before after
  pub waiting : after.waiting ≡ before.waiting

-- how serving a connection ended: well, or by a read or a write of it that failed
abbrev pub ConnEnd : Type 0
ConnEnd = Result (Unit {0}) ConnFault

-- a connection while it was served: what its reader and its writer told when it was accepted and
-- when it was closed, and how it ended
pub record Visit : Type 0 where
  pub reader_before : Told
  pub reader_after : Told
  pub writer_before : Told
  pub writer_after : Told
  pub ended : ConnEnd

-- a connection while it was served, by what it told as a reader and as a writer, before and after.
-- Beside the reader stands, also after, what stood there at first; beside the writer, also before,
-- what stood there at last
abbrev pub conn_visit : {C : Type 0} → readers.Ghosts C → writers.Ghosts C → C → C → ConnEnd
    → Visit
conn_visit reader writer old new ended = record {
  reader_before = reader.told old;
  reader_after = set_beside (reader.told old).aside (reader.told new);
  writer_before = set_beside (writer.told new).aside (writer.told old);
  writer_after = writer.told new;
  ended = ended;
}

-- what serving a connection does, as a relation of the desk before and after and of the visit that
-- it was; for desks over tables of any kind
abbrev pub Serving : Type 1
Serving = (S : Type 0) → Ghosts S → Desk S → Desk S → Visit → Type 0

-- the turn that a visit is; without one no connection could be accepted
abbrev pub turn_of : Option Visit → Turn
turn_of None = unaccepted
turn_of (Some visit) = closed visit.reader_before.bytes visit.writer_after.bytes

-- a turn in which a connection was accepted and served well
abbrev pub is_served : Option Visit → Bool
is_served None = false
is_served (Some visit) = is_ok visit.ended

-- what stays of a desk through a turn: its settings; its connection, which lasts; and until a fault
-- of the store stops it, the rows of its registry
pub record StaysServed {S : Type 0} (g : Ghosts S) (before after : Desk S) : Type 0 where
  pub settings : after.settings ≡ before.settings
  pub lasts : DatabaseLasts (desk_state g before) (desk_state g after)
  pub rows : StoresUntilStopped g after.stock

-- what a turn did: nothing where no connection could be accepted, otherwise what serving it does,
-- from when it was accepted, and what stays of the desk
abbrev pub Does : (S : Type 0) → Ghosts S → Serving → Option Visit → Desk S → Desk S
    → Type 0
Does S g serves None before after = after ≡ before
Does S g serves (Some visit) before after =
    IsFresh visit.reader_before visit.writer_before
    × serves S g before after visit
    × StaysServed g before after

-- the turns were taken one after the other, in this order
abbrev pub DoesAll : (S : Type 0) → Ghosts S → Serving → List (Option Visit) → Desk S
    → Desk S
    → Type 0
DoesAll S g serves [] before after = after ≡ before
DoesAll S g serves (visit ∷ visits) before after =
    (between : Desk S) × Does S g serves visit before between
    × DoesAll S g serves visits between after

-- the bytes that the reader of a turn's connection told, where one was accepted
abbrev pub given_in : Option Visit → Option (Option (List ℕ))
given_in = option_map (λ visit. visit.reader_before.bytes)

-- the connections to come were accepted in their order
abbrev pub InOrder : List (Option Visit) → Option (List (List ℕ)) → Option (List (List ℕ))
    → Type 0
InOrder [] before after = after ≡ before
InOrder (visit ∷ visits) before after =
    (between : Option (List (List ℕ))) × IsNextTurn (given_in visit) before between
    × InOrder visits between after

-- the turn at this place was that of a connection whose reader told these bytes when it was
-- accepted
pub record IsGivenAt (visits : List (Option Visit)) (place : ℕ) (bytes : List ℕ) : Type 0 where
  pub visit : Visit
  pub is : slice_get visits place ≡ Some (Some visit)
  pub given : visit.reader_before.bytes ≡ Some bytes

-- so many turns were taken, in order: what each did, and that it was of the next connection; that
-- each is counted and, where turns are told, told; and how many were served and how many not
pub record TakesTurns {S : Type 0} (g : Ghosts S) (serves : Serving) (count : ℕ)
    (before after : Desk S) (tally_before tally_after : Tally) (served failed : ℕ) : Type 0 where
  pub visits : List (Option Visit)
  pub many : length visits ≡ count
  pub all : DoesAll S g serves visits before after
  pub in_order : InOrder visits tally_before.waiting tally_after.waiting
  pub counted : tally_after.turns ≡ tally_before.turns + count
  pub told : tally_after.told
      ≡ option_map (λ turns. turns ++ map turn_of visits) tally_before.told
  pub are_served : served ≡ count_by is_served visits
  pub are_failed : failed ≡ count_by (λ visit. not (is_served visit)) visits

-- a listener that tells no turns tells none that are not counted
pub none_told : (counted : ℕ) (turns : List Turn) → None ≡ Some turns
    → length turns ≡ counted
none_told counted turns is = cc
