-- What `irrdesk probe` does, and what it prints, for the contract of `probe` (profile).
use Rattle.std.specs.Prelude.{◌≡◌, ◌≢◌, ◌<◌, ◌⊎◌, ℕ, List, [], Option, Ok, Err, IfSome, codes}
use Rattle.std.specs.Prelude.{if◌then◌else◌, nat_eq}
use Rattle.std.specs.IoError.{error_kind}
use Rattle.std.specs.List.{starts_with}
use Rattle.std.specs.declared.io.Error.{Error}
use Rattle.std.specs.declared.io.ErrorKind.TheVariants.{OutOfMemory}
use Rattle.sqlite_trees.specs.declared.store.Store.{Ghosts}
use Rattle.rr_io.specs.Sending.{Takes, TakesPrefix}
use Rattle.rr_io.specs.Told.{Told}
use Rattle.rr_desk.specs.Desks.{desk_state}
use Rattle.rr_desk.specs.Stocks.{DatabaseLasts, StoresUntilStopped}
use Rattle.rr_desk.specs.Turns.{Serving, TakesTurns, Tally}
use Rattle.rr_desk.specs.declared.desk.Desk.{Desk}
use Rattle.rr_commands.specs.Commands.{Act, ActsBySettings, AtDesk, CommandEnd}
use Rattle.rr_commands.specs.Commands.{FailsSilently, ProgramEnd, cause_of}
use Rattle.rr_commands.specs.Faults.{IsAbout}
use Rattle.rr_commands.specs.Worlds.{Deed, Ports}
use Rattle.rr_commands.specs.declared.cause.Cause.{Cause}
use Rattle.rr_commands.specs.declared.cause.Cause.TheVariants as cause
use Rattle.rr_commands.specs.declared.trouble.Trouble.{Trouble}
use Rattle.rr_commands.specs.declared.trouble.Trouble.TheVariants.{ListenerUnopened, Memory}
use Rattle.rr_commands.specs.declared.trouble.Trouble.TheVariants.{ProbeFailed, Unwritten}
use Rattle.rr_cli.specs.Networks.{Means, NetworkCalls}

-- the status of a probe: 1 if the reply is an error, and else 0 (profile)
abbrev pub reply_status : List ℕ → ℕ
reply_status reply = if starts_with nat_eq reply (codes "% error ") then 1 else 0

-- a reply was printed, and the status says whether it is an error; or it could not be printed whole
-- (profile)
abbrev pub PrintsReply : List ℕ → Told → Told → CommandEnd → Type 0
PrintsReply reply old new (Ok status) = (status ≡ reply_status reply) × Takes old new reply
PrintsReply reply old new (Err trouble) = (trouble ≡ Unwritten) × TakesPrefix old new reply

-- a reply is all that was to be given, if that is told, and it is not empty (profile)
pub record IsWhole (given : Option (List ℕ)) (reply : List ℕ) : Type 0 where
  pub all : IfSome given (λ bytes. reply ≡ bytes)
  pub some : reply ≢ []

-- a peer asked this, and the reply is all that it was to be given (profile)
pub record IsReplyTo (network : NetworkCalls) (query reply : List ℕ) : Type 0 where
  pub given : Option (List ℕ)
  pub asked : network.asks query (Ok given)
  pub whole : IsWhole given reply

-- the reply to the name of a desk's root maintainer was printed, or not whole (profile)
pub record HasReply {S : Type 0} (network : NetworkCalls) (done : Deed (Desk S) CommandEnd)
    : Type 0 where
  pub reply : List ℕ
  pub is_reply : IsReplyTo network done.before.has.settings.root reply
  pub prints : PrintsReply reply done.before.output done.after.output done.ended

-- of a listener that told `tally_before` one turn was taken, and `failed` says how many failed, 0
-- or 1. The settings stay, the connection lasts, and until the desk is stopped its rows are those
-- of its registry (profile)
pub record TakesOneTurn {S : Type 0} (g : Ghosts S) (serves : Serving) (tally_before : Tally)
    (before after : Desk S) (failed : ℕ) : Type 0 where
  pub tally_after : Tally
  pub served : ℕ
  pub turns : TakesTurns g serves 1 before after tally_before tally_after served failed
  pub settings : after.settings ≡ before.settings
  pub lasts : DatabaseLasts (desk_state g before) (desk_state g after)
  pub rows : StoresUntilStopped g after.stock

-- any free port was listened on, and one turn of what listens on it was taken and served (profile)
pub record ListensOnce {S : Type 0} (g : Ghosts S) (network : NetworkCalls) (serves : Serving)
    (before after : Desk S) : Type 0 where
  pub tally : Tally
  pub listened : network.listens 0 (Ok tally)
  pub takes : TakesOneTurn g serves tally before after 0

-- what is told of a question that failed for this cause (profile)
abbrev pub question_trouble : Cause → Trouble
question_trouble cause.Memory = Memory
question_trouble cause = ProbeFailed cause

-- nothing listened, for this cause, and the desk is as it was (profile)
pub record HasNoListener {S : Type 0} (network : NetworkCalls) (before after : Desk S)
    (trouble : Trouble) : Type 0 where
  pub cause : Cause
  pub told : trouble ≡ ListenerUnopened cause
  pub refused : network.listens 0 (Err cause)
  pub kept : after ≡ before

-- nobody could ask for the root maintainer, for this cause, and the desk is as it was (profile)
pub record FailsToConnect {S : Type 0} (network : NetworkCalls) (before after : Desk S)
    (trouble : Trouble) : Type 0 where
  pub error : Error
  pub refused : network.asks before.settings.root (Err error)
  pub told : trouble ≡ question_trouble (cause_of error)
  pub kept : after ≡ before

-- the connection of a peer was closed after a read that failed (profile)
pub record BreaksPeer (network : NetworkCalls) : Type 0 where
  pub failed : ℕ
  pub closed : network.closes failed
  pub some : 0 < failed

-- why a peer that was to be given these bytes has no reply, by this error: a read failed, they are
-- none or not told, or memory ran out (profile)
abbrev pub HearsNothing : NetworkCalls → Option (List ℕ) → Error → Type 0
HearsNothing network given error =
    BreaksPeer network
    ⊎ (IfSome given (λ bytes. bytes ≡ []) ⊎ (error_kind error ≡ OutOfMemory))

-- one turn was taken, and it failed, which is the trouble, with some cause (profile)
pub record FailsTurn {S : Type 0} (g : Ghosts S) (serves : Serving) (tally : Tally)
    (before after : Desk S) (trouble : Trouble) : Type 0 where
  pub failed : ℕ
  pub some : 0 < failed
  pub takes : TakesOneTurn g serves tally before after failed
  pub cause : Cause
  pub told : trouble ≡ ProbeFailed cause

-- one turn was taken and served, and this is why no reply was read of what was given (profile)
pub record FailsToHear {S : Type 0} (g : Ghosts S) (network : NetworkCalls) (serves : Serving)
    (tally : Tally) (given : Option (List ℕ)) (before after : Desk S) (trouble : Trouble)
    : Type 0 where
  pub takes : TakesOneTurn g serves tally before after 0
  pub error : Error
  pub why : HearsNothing network given error
  pub told : trouble ≡ question_trouble (cause_of error)

-- a turn that was asked for failed, or gave no reply (profile)
abbrev pub GivesNoReply : {S : Type 0} → Ghosts S → NetworkCalls → Serving → Tally
    → Option (List ℕ) → Desk S → Desk S → Trouble → Type 0
GivesNoReply g network serves tally given before after trouble =
    FailsTurn g serves tally before after trouble
    ⊎ FailsToHear g network serves tally given before after trouble

-- a peer asked for the root maintainer, and one turn gave no reply (profile)
pub record HasNoReply {S : Type 0} (g : Ghosts S) (network : NetworkCalls) (serves : Serving)
    (tally : Tally) (before after : Desk S) (trouble : Trouble) : Type 0 where
  pub given : Option (List ℕ)
  pub asked : network.asks before.settings.root (Ok given)
  pub fails : GivesNoReply g network serves tally given before after trouble

-- something listened, and the question failed (profile)
pub record FailsToAsk {S : Type 0} (g : Ghosts S) (network : NetworkCalls) (serves : Serving)
    (before after : Desk S) (trouble : Trouble) : Type 0 where
  pub tally : Tally
  pub listened : network.listens 0 (Ok tally)
  pub fails : FailsToConnect network before after trouble
      ⊎ HasNoReply g network serves tally before after trouble

-- why there is no reply: nothing listened, or the question failed (profile)
abbrev pub AsksInVain : {S : Type 0} → Ghosts S → NetworkCalls → Serving → Desk S → Desk S
    → Trouble → Type 0
AsksInVain g network serves before after trouble =
    HasNoListener network before after trouble
    ⊎ FailsToAsk g network serves before after trouble

-- what `irrdesk probe` does at a desk. It asks in vain, and prints nothing. Or it asks for the root
-- maintainer of the settings, one turn is taken and served, and the reply is printed, or not whole
-- (profile)
abbrev pub ProbesDesk : {S : Type 0} → Ghosts S → Means → Act (Desk S)
ProbesDesk g means done =
    FailsSilently
    (AsksInVain g means.network means.serves done.before.has done.after.has) done
    ⊎ (HasReply means.network done
    × ListensOnce g means.network means.serves done.before.has done.after.has)

-- what `irrdesk probe` does: the settings are read from the file, a desk of the database that they
-- name is opened and asked (`ProbesDesk`), and closed. Or there are no settings, or no desk
-- (profile)
abbrev pub ProbesBy : {D S : Type 0} → Ports D S → Means → List ℕ → Deed D ProgramEnd → Type 0
ProbesBy by means file = ActsBySettings by.files file (IsAbout file)
    (AtDesk by.stores (ProbesDesk by.stores.store means))
