use Rattle.std.proofs.Common.{◌≡◌, ◌+◌, ◌∙◌, arith, if◌then◌else◌, refl}
use Rattle.rr_desk.specs.Lasting.{database_on, database_still}
use Rattle.rr_desk.proofs.TurnLemmas.{no_turn, turn_counted}
use Rattle.rr_desk.proofs.turn_serving.serve_all.Goals as goal
use Rattle.rr_desk.proofs.turn_serving.serve_all.Goals.{then-take_turn, else-take_turn}

-- none was taken
pub turns-init : goal.turns-init
turns-init g c = record {
  within = omega arith;
  taken = no_turn _ _ _ _;
  lasts = database_still _;
  settings = refl;
}

pub returns-clause-stays : goal.returns-clause-stays
returns-clause-stays g c = record {
  settings = c.turns.invariant.settings;
  lasts = c.turns.invariant.lasts;
  rows = c.keeps_its_rows.ensures.rows;
}

-- one more turn was taken and counted
pub turns-preserved : goal.turns-preserved
turns-preserved g c =
    let before = c.turns.invariant.within in
    elim c.if-take_turn.branch [
      | then-take_turn w ↦
          let is = w.served-is in
          let more : c.if-take_turn.served ≡ c.turns.served + (if c.take_turn.result then 1 else 0)
          = rw w.if-take_turn.true (omega arith) in record {
            within = omega arith;
            taken = turn_counted _ _ _ _ _ _ _ _ _ _ _ _ c.turns.invariant.taken
                c.take_turn.ensures before more;
            lasts = database_on _ _ _ c.turns.invariant.lasts c.take_turn.ensures.lasts;
            settings = c.take_turn.ensures.settings ∙ c.turns.invariant.settings;
          }
      | else-take_turn w ↦
          let is = w.served-is in
          let more : c.if-take_turn.served ≡ c.turns.served + (if c.take_turn.result then 1 else 0)
          = rw w.if-take_turn.false (omega arith) in record {
            within = omega arith;
            taken = turn_counted _ _ _ _ _ _ _ _ _ _ _ _ c.turns.invariant.taken
                c.take_turn.ensures before more;
            lasts = database_on _ _ _ c.turns.invariant.lasts c.take_turn.ensures.lasts;
            settings = c.take_turn.ensures.settings ∙ c.turns.invariant.settings;
          }
    ]
