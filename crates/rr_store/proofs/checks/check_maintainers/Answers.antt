use Rattle.std.proofs.lemmas.Result.{err_from_is_err_and}
use Rattle.rr_store.specs.LookParts.{IsTabled}
use Rattle.rr_store.proofs.InspectLemmas.{inspects_then, refused_as, seen_then}
use Rattle.rr_store.proofs.checks.check_maintainers.Goals as goal

pub returns : goal.returns
returns g c over =
    let turn = c.in_ok-names_in_turn.ensures over in
    inspects_then g.S.Store c.args.conn.now c.names_in_turn.new.conn turn.looks.rests
    turn.looks.same c.check_sorted_names.new.conn c.check_sorted_names.result _ _
    (c.check_sorted_names.ensures (seen_then g.S.Store c.args.conn.now c.names_in_turn.new.conn
    turn.looks.rests turn.looks.same IsTabled over))

pub returns-in_err-names_in_turn : goal.returns-in_err-names_in_turn
returns-in_err-names_in_turn g c =
    let exit = err_from_is_err_and c.from_residual.result c.from_residual.ensures.1 in
    rw (exit.1, exit.2) (λ over. refused_as g.S.Store c.args.conn.now c.names_in_turn.new.conn
    c.in_err-names_in_turn.field-0.0 _ _ _ _ (c.in_err-names_in_turn.ensures over)
    (λ clean why. record {
      bad_row = λ bad. absurd (why.bad_row bad);
      no_other = why.no_other;
    }))

pub returns-then-branch : goal.returns-then-branch
returns-then-branch g c over =
    let turn = c.in_ok-names_in_turn.ensures over in
    record {
      looks = record { rests = turn.looks.rests; same = turn.looks.same };
      read = λ clean. turn.read clean c.if-branch.true;
      why = λ clean. tt;
      cause = tt;
    }
