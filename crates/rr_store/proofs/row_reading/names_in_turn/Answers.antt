use Rattle.std.proofs.Common.{rules, arith, IsTrue, [], map}
use Rattle.rr_store.specs.CheckParts.{HasBadRow, NamesAre}
use Rattle.rr_store.specs.Contents.{IsInRank, by_one, numbered}
use Rattle.rr_store.proofs.StreamLemmas.{Begins, begins, begun_open, whole_answer}
use Rattle.rr_store.proofs.TidyLemmas.{listed}
use Rattle.std.proofs.lemmas.Result.{IfOk-weaker, err_from_is_err_and}
use Rattle.sqlite.specs.Held.{state}
use Rattle.sqlite.specs.State.{HasCleanDisk}
use Rattle.rr_store.specs.Opening.{Inspects}
use Rattle.rr_store.specs.Tables.{HasTables}
use Rattle.rr_store.specs.Texts.{select_named}
use Rattle.rr_store.proofs.TextLemmas.{select_named_is}
use Rattle.rr_store.proofs.StatementLemmas.{selects_named}
use Rattle.rr_store.proofs.CauseLemmas.{select_named_told}
use Rattle.rr_store.proofs.CheckLemmas.{both_err, each_err}
use Rattle.rr_store.proofs.InspectLemmas.{inspected, not_asked}
use Rattle.rr_store.proofs.LookLemmas.{plain_of}
use Rattle.rr_store.proofs.row_reading.names_in_turn.Goals as goal

pub returns-in_err-rows : goal.returns-in_err-rows
returns-in_err-rows g c =
    let old = c.args.conn.now in
    let refused = rw c.conn.view_is at (rw c.in_err-rows.was at c.query.follows.holds-at-none) in
    let exit = err_from_is_err_and c.from_residual.result c.from_residual.ensures.1 in
    rw (exit.1, exit.2) (λ over. not_asked g.S.Store select_named [] select_named_told old
    c.query.follows.lender-at-none c.note_committed.ensures.committed
    (λ clean. plain_of old.schema select_named _ select_named_is (over clean))
    (refused.mode (rw c.conn.view_is at c.conn.invariant))
    c.in_err-rows.field-0.0 refused.err refused.survives _ _)

pub take_all_names-requires : goal.take_all_names-requires
take_all_names-requires g c clean =
    begun_open g.S.Store select_named [] c.conn.inside.inner c.in_ok-rows.rows.conn.now
    (c.in_ok-rows.ensures.begun clean)

pub returns : goal.returns
returns g c over =
    let old = c.args.conn.now in
    let begun = c.in_ok-rows.rows.conn.now in
    let new = c.take_all_names.new.rows.conn.now in
    let b : Begins g.S.Store select_named [] old begun = begins g.S.Store select_named [] old begun
    (λ clean. plain_of old.schema select_named _ select_named_is (over clean))
    (rw c.conn.view_is at c.in_ok-rows.ensures.begun)
    (rw c.conn.view_is at c.in_ok-rows.ensures.survives) in
    let first : HasCleanDisk (state g.S.Store new) → HasCleanDisk (state g.S.Store begun) = λ clean.
    omega (arith, clean, c.take_all_names.ensures.streams.left.survives.clean) in
    let tables : HasCleanDisk (state g.S.Store new) → HasTables old.schema = λ clean.
    over (let before = first clean in omega (arith, before, b.survives.clean)) in
    let all : Inspects g.S.Store old new c.take_all_names.result
    (λ db are. IsTrue are → NamesAre c.args.version c.args.objects.now db) (HasBadRow (λ _. ⊥)) =
    inspected g.S.Store select_named [] select_named_told old new
    c.note_committed.ensures.committed begun b
    (c.in_ok-rows.ensures.mode c.conn.invariant) c.take_all_names.result
    (λ db are. IsTrue are → NamesAre c.args.version c.args.objects.now db) (HasBadRow (λ _. ⊥))
    c.take_all_names.ensures.streams.left
    (λ clean. IfOk-weaker c.take_all_names.result _ _ (λ are h on.
    let rest = h on in
    let ranked = whole_answer g.S.Store select_named [] old begun new b (first clean)
    (tables clean) (λ db rows. IsInRank by_one (map numbered (db.trees 4)) rows) selects_named
    rest.0 rest.1 in
    listed _ _ _ ranked.same rest.2) (c.take_all_names.ensures.are clean))
    (λ clean. both_err c.take_all_names.result _ _ _ c.take_all_names.ensures.no_bad_row
    c.take_all_names.ensures.fails
    (λ fault none fails. record { bad_row = none; no_other = fails.no_other }))
    (λ clean. each_err c.take_all_names.result _ _ c.take_all_names.ensures.fails
    (λ fault fails. fails.fails clean)) in
    search rules
