-- What `irrdesk serve` does, and what it prints, for the contracts of `serve` and of
-- `PeersWithCause` (profile).
use Rattle.std.specs.Prelude.{◌≡◌, ◌⊎◌, ℕ, Bool, true, false, List, [], ◌∷◌, ◌++◌, map, IfSome}
use Rattle.std.specs.Prelude.{IsTrue, Ok, Err, codes, decimal}
use Rattle.sqlite_trees.specs.declared.store.Store.{Ghosts}
use Rattle.rr_io.specs.Sending.{Takes, TakesPrefix}
use Rattle.rr_io.specs.Told.{Told}
use Rattle.rr_desk.specs.Desks.{desk_state}
use Rattle.rr_desk.specs.Stocks.{DatabaseLasts, StoresUntilStopped}
use Rattle.rr_desk.specs.Turns.{Serving, TakesTurns, Tally, Turn, unaccepted}
use Rattle.rr_desk.specs.declared.desk.Desk.{Desk}
use Rattle.rr_commands.specs.declared.cause.Cause.{Cause}
use Rattle.rr_commands.specs.declared.trouble.Trouble.{Trouble}
use Rattle.rr_commands.specs.declared.trouble.Trouble.TheVariants.{ListenerUnopened, Unaccepted}
use Rattle.rr_commands.specs.declared.trouble.Trouble.TheVariants.{Unwritten}
use Rattle.rr_commands.specs.Commands.{Act, ActsBySettings, AtDesk, CommandEnd, ProgramEnd}
use Rattle.rr_commands.specs.Faults.{IsAbout, ShowsOnLine, byte_on_line}
use Rattle.rr_commands.specs.Worlds.{Deed, Ports, deed}
use Rattle.rr_commands.specs.declared.command_fault.ProgramFault.{ProgramFault}
use Rattle.rr_cli.specs.Networks.{Means, NetworkCalls}
use Rattle.rr_cli.specs.declared.serve_command.Listening.{Listening}

-- the line that says how many turns were served, and how many failed (profile)
unfoldable pub served_line : ℕ → ℕ → List ℕ
served_line served failed =
    codes "served " ++ (decimal served ++ (codes ", failed " ++ (decimal failed ++ codes "\n")))

-- in the last of these turns no connection could be accepted (profile)
abbrev pub EndsUnaccepted : List Turn → Type 0
EndsUnaccepted turns = (earlier : List Turn) × (turns ≡ earlier ++ unaccepted ∷ [])

-- in the last of these turns, if there are any, a connection was accepted (profile)
abbrev pub EndsAccepted : List Turn → Type 0
EndsAccepted turns = EndsUnaccepted turns → ⊥

-- no turn was served, and the fault is that no connection could be accepted, for some cause; where
-- turns are told, none was in the last one (profile)
pub record HasServedNone (tally : Tally) (served : ℕ) (ended : CommandEnd) : Type 0 where
  pub cause : Cause
  pub told : ended ≡ Err (Unaccepted cause)
  pub none : served ≡ 0
  pub refused : IfSome tally.told EndsUnaccepted

-- the status is 0, also where some turns failed; if none was served, a connection was accepted in
-- the last one, where turns are told (profile)
pub record EndsWell (tally : Tally) (served : ℕ) (ended : CommandEnd) : Type 0 where
  pub told : ended ≡ Ok 0
  pub accepted : served ≡ 0 → IfSome tally.told EndsAccepted

-- how serving ends once the number of turns was printed: well, or because no connection could be
-- accepted (profile)
abbrev pub IsServedEnd : Tally → ℕ → CommandEnd → Type 0
IsServedEnd tally served ended = EndsWell tally served ended ⊎ HasServedNone tally served ended

-- the number of turns was printed whole, and serving ends so; or it could not be printed whole,
-- which is the fault then (profile)
abbrev pub EndsServed : Tally → ℕ → ℕ → Told → Told → CommandEnd → Type 0
EndsServed tally served failed old new ended =
    (Takes old new (served_line served failed) × IsServedEnd tally served ended)
    ⊎ (TakesPrefix old new (served_line served failed) × (ended ≡ Err Unwritten))

-- so many turns of a listener were taken, how many were served and how many failed was printed, or
-- not whole, and serving ended as `EndsServed` says. The settings stay, the connection lasts, and
-- until the desk is stopped its rows are those of its registry (profile).
pub record HasServed {S : Type 0} (g : Ghosts S) (serves : Serving) (count : ℕ)
    (tally_before tally_after : Tally) (done : Deed (Desk S) CommandEnd) : Type 0 where
  pub served : ℕ
  pub failed : ℕ
  pub turns : TakesTurns g serves count done.before.has done.after.has tally_before tally_after
      served failed
  pub settings : done.after.has.settings ≡ done.before.has.settings
  pub lasts : DatabaseLasts (desk_state g done.before.has) (desk_state g done.after.has)
  pub rows : StoresUntilStopped g done.after.has.stock
  pub ends : EndsServed tally_after served failed done.before.output done.after.output done.ended

-- what the line begins with that says where the program listens (profile)
unfoldable pub listening_head : List ℕ
listening_head = codes "listening on 127.0.0.1:"

-- the line that says where the program listens (profile)
abbrev pub listening_line : ℕ → List ℕ
listening_line port = listening_head ++ (decimal port ++ codes "\n")

-- why nothing was served: the listener was not opened, for this cause, and nothing was printed; or
-- it was, and where it listens could not be printed whole (profile)
abbrev pub FailsToListen : NetworkCalls → ℕ → Trouble → Told → Told → Type 0
FailsToListen network port (ListenerUnopened cause) old new =
    network.listens port (Err cause) × (new ≡ old)
FailsToListen network port Unwritten old new =
    ((tally : Tally) × network.listens port (Ok tally)) × TakesPrefix old new (listening_line port)
FailsToListen network port _ old new = ⊥

-- what is served, as one: a port, and so many turns of what listens on it
abbrev pub listening : ℕ → ℕ → Listening
listening port count = record { port = port; count = count }

-- the port is not listened on, or that could not be said: nothing was served, and the desk is as it
-- was (profile)
pub record HasNotListened {S : Type 0} (network : NetworkCalls) (port : ℕ)
    (done : Deed (Desk S) CommandEnd) : Type 0 where
  pub trouble : Trouble
  pub told : done.ended ≡ Err trouble
  pub said : FailsToListen network port trouble done.before.output done.after.output
  pub same : done.after.has ≡ done.before.has

-- the port was listened on, that was said, and then turns of what listens on it were served
-- (profile)
pub record HasListened {S : Type 0} (g : Ghosts S) (network : NetworkCalls) (serves : Serving)
    (asked : Listening) (done : Deed (Desk S) CommandEnd) : Type 0 where
  pub between : Told
  pub said : Takes done.before.output between (listening_line asked.port)
  pub tally_before : Tally
  pub tally_after : Tally
  pub listened : network.listens asked.port (Ok tally_before)
  pub served : HasServed g serves asked.count tally_before tally_after
      (deed done.before.has done.after.has between done.after.output done.ended)

-- what `irrdesk serve` does at a desk: it does not listen, or it does and serves (profile)
abbrev pub ServesDesk : {S : Type 0} → Ghosts S → Means → Listening → Act (Desk S)
ServesDesk g means asked done =
    HasNotListened means.network asked.port done
    ⊎ HasListened g means.network means.serves asked done

-- where a port is listened on (profile)
abbrev pub address : ℕ → List ℕ
address port = codes "127.0.0.1:" ++ decimal port

-- trouble with what listens (profile)
abbrev pub is_of_listener : Trouble → Bool
is_of_listener (ListenerUnopened cause) = true
is_of_listener (Unaccepted cause) = true
is_of_listener _ = false

-- a fault shows where this port is listened on, or nothing where memory ran out (profile)
abbrev pub ShowsPort : ℕ → ProgramFault → Type 0
ShowsPort port fault =
    ShowsOnLine (map byte_on_line (address port) ++ codes ": ") fault ⊎ ShowsOnLine [] fault

-- a fault of what listens on this port shows where (profile)
abbrev pub IsAboutPort : ℕ → ProgramFault → Type 0
IsAboutPort port fault = IsTrue (is_of_listener fault.trouble) × ShowsPort port fault

-- what a fault of `irrdesk serve` shows: the place of its trouble or, of what listens, the address
-- (profile)
abbrev pub IsAboutServing : ℕ → List ℕ → List ℕ → List ℕ → ProgramFault → Type 0
IsAboutServing port file path found fault =
    IsAbout file path found fault ⊎ IsAboutPort port fault

-- what `irrdesk serve` is given: its settings file, the port, and how many turns (profile)
pub record ServeWords : Type 0 where
  pub file : List ℕ
  pub asked : Listening

-- these are the words of `irrdesk serve` (profile)
abbrev pub serve_words : List ℕ → Listening → ServeWords
serve_words file asked = record { file = file; asked = asked }

-- what `irrdesk serve` does: the settings are read from the file, a desk of the database that they
-- name is opened and served (`ServesDesk`), and closed. Or there are no settings, or no desk
-- (profile)
abbrev pub ServesBy : {D S : Type 0} → Ports D S → Means → ServeWords → Deed D ProgramEnd
    → Type 0
ServesBy by means words =
    ActsBySettings by.files words.file (IsAboutServing words.asked.port words.file)
    (AtDesk by.stores (ServesDesk by.stores.store means words.asked))
