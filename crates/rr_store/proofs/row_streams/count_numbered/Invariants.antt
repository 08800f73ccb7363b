use Rattle.std.proofs.Common.{◌≡◌, length}
use Rattle.rr_store.proofs.NumberLemmas.{IsRun}
use Rattle.rr_store.proofs.NextLemmas.{IsLast}
use Rattle.rr_store.proofs.StreamLemmas.{HasRead}
use Rattle.rr_store.proofs.row_streams.count_numbered.Given as goal

abbrev pub invariant-rows : goal.invariant-rows
invariant-rows g l = (l.rows.conn.ghost_name ≡ l.initial.rows.conn.ghost_name) × HasRead g.S.Store
    l.initial.rows.conn.now l.rows.conn.now (λ rows. IsRun l.last rows × IsLast l.last rows
    × (l.count ≡ length rows))
