use Rattle.std.proofs.Common.{◌≡◌, ◌-◌, ◌≤◌}
use Rattle.rr_desk.specs.Desks.{desk_state}
use Rattle.rr_desk.specs.Stocks.{DatabaseLasts}
use Rattle.rr_desk.specs.Turns.{TakesTurns}
use Rattle.rr_desk.proofs.turn_serving.serve_all.Given as goal

-- the turns taken so far
abbrev pub invariant-turns : goal.invariant-turns
invariant-turns g l = record {
  within : l.served ≤ l.turn;
  taken : TakesTurns g.S.Store g.V.Service.serves l.turn l.initial.desk l.desk
      (g.P.Peers.tally l.initial.peers) (g.P.Peers.tally l.peers) l.served (l.turn - l.served);
  lasts : DatabaseLasts (desk_state g.S.Store l.initial.desk) (desk_state g.S.Store l.desk);
  settings : l.desk.settings ≡ l.initial.desk.settings;
}
