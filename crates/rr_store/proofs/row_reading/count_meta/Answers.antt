use Rattle.std.proofs.Common.{rules, [], refl}
use Rattle.rr_store.specs.LookParts.{CountsRows}
use Rattle.rr_store.specs.Texts.{meta_numbers}
use Rattle.rr_store.proofs.TextLemmas.{meta_numbers_is}
use Rattle.rr_store.proofs.StatementLemmas.{numbers_meta}
use Rattle.rr_store.proofs.CauseLemmas.{meta_numbers_told}
use Rattle.rr_store.proofs.InspectLemmas.{counted, not_counted}
use Rattle.rr_store.proofs.LookLemmas.{plain_of}
use Rattle.rr_store.proofs.StreamLemmas.{Begins, begins, begun_open}
use Rattle.std.proofs.lemmas.Result.{err_from_is_err_and}
use Rattle.rr_store.proofs.row_reading.count_meta.Goals as goal

pub returns-in_err-rows : goal.returns-in_err-rows
returns-in_err-rows g c =
    let old = c.args.conn.now in
    let refused = rw c.conn.view_is at (rw c.in_err-rows.was at c.query.follows.holds-at-none) in
    let exit = err_from_is_err_and c.from_residual.result c.from_residual.ensures.1 in
    rw (exit.1, exit.2) (λ over. not_counted g.S.Store meta_numbers [] meta_numbers_told old
    c.query.follows.lender-at-none c.note_committed.ensures.committed
    (λ clean. plain_of old.schema meta_numbers _ meta_numbers_is (over clean))
    (refused.mode (rw c.conn.view_is at c.conn.invariant))
    c.in_err-rows.field-0.0 refused.err refused.survives 0)

pub count_numbered-requires : goal.count_numbered-requires
count_numbered-requires g c clean =
    begun_open g.S.Store meta_numbers [] c.conn.inside.inner c.in_ok-rows.rows.conn.now
    (c.in_ok-rows.ensures.begun clean)

pub returns : goal.returns
returns g c over =
    let old = c.args.conn.now in
    let begun = c.in_ok-rows.rows.conn.now in
    let new = c.count_numbered.new.rows.conn.now in
    let b : Begins g.S.Store meta_numbers [] old begun = begins g.S.Store meta_numbers [] old begun
    (λ clean. plain_of old.schema meta_numbers _ meta_numbers_is (over clean))
    (rw c.conn.view_is at c.in_ok-rows.ensures.begun)
    (rw c.conn.view_is at c.in_ok-rows.ensures.survives) in
    let all : CountsRows g.S.Store 0 old new c.count_numbered.result =
    counted g.S.Store meta_numbers [] meta_numbers_told old new
    c.note_committed.ensures.committed begun b
    (c.in_ok-rows.ensures.mode c.conn.invariant) over c.count_numbered.result
    c.count_numbered.ensures.streams.left _ _ meta_numbers_is refl 0 numbers_meta
    (λ tidy. tidy.meta) c.count_numbered.ensures.numbered c.count_numbered.ensures.fails in
    search rules
