use Rattle.rr_desk.proofs.TurnLemmas.{failed_turn, served_turn}
use Rattle.rr_desk.proofs.turn_serving.take_turn.Goals as goal

pub returns-in-Ok : goal.returns-in-Ok
returns-in-Ok g c =
    served_turn _ _ g.P.Conn.Reader g.P.Conn.Writer _ _ _ _ _ _ c.in-Ok.conn c.serve-ended.new.conn
    _ _ c.is_ok.ensures.value c.in-Ok.ensures.accepted c.serve-ended.ensures.serves
    (record {
      settings = c.serve-ended.ensures.settings;
      lasts = c.serve-ended.ensures.lasts;
      rows = c.serve-ended.ensures.rows;
    }) c.close.ensures

pub returns-in-Err : goal.returns-in-Err
returns-in-Err g c = failed_turn _ _ _ _ _ c.in-Err.ensures.refused
