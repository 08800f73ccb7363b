-- What private functions that take turns of a listener promise each other. No public clause cites
-- these.
use Rattle.std.specs.Prelude.{◌≡◌, Bool, Option}
use Rattle.sqlite_trees.specs.declared.store.Store.{Ghosts}
use Rattle.rr_desk.specs.declared.desk.Desk.{Desk}
use Rattle.rr_desk.specs.Desks.{desk_state}
use Rattle.rr_desk.specs.Stocks.{DatabaseLasts}
use Rattle.rr_desk.specs.Turns.{CountsTurn, Does, IsNextTurn, Serving, Tally, Visit}
use Rattle.rr_desk.specs.Turns.{given_in, is_served, turn_of}

-- a turn was taken: what it did, that it was of the next connection, that it is counted and, where
-- turns are told, told, and whether it was served; the connection of the desk lasts, and its
-- settings stay
pub record TakesTurn {S : Type 0} (g : Ghosts S) (serves : Serving) (before after : Desk S)
    (tally_before tally_after : Tally) (served : Bool) : Type 0 where
  pub visit : Option Visit
  pub does : Does S g serves visit before after
  pub is_next : IsNextTurn (given_in visit) tally_before.waiting tally_after.waiting
  pub taken : CountsTurn (turn_of visit) tally_before tally_after
  pub served_well : served ≡ is_served visit
  pub lasts : DatabaseLasts (desk_state g before) (desk_state g after)
  pub settings : after.settings ≡ before.settings
