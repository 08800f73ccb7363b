use Rattle.std.proofs.Common.{◌≡◌, map, take}
use Rattle.rr_store.specs.Contents.{contents, named_values}
use Rattle.rr_store.proofs.StreamLemmas.{HasRead}
use Rattle.rr_store.proofs.row_streams.take_names.Given as goal

abbrev pub invariant-loop-name : goal.invariant-loop-name
invariant-loop-name g l = (l.rows.conn.ghost_name ≡ l.initial.rows.conn.ghost_name)
    × HasRead g.S.Store l.initial.rows.conn.now l.rows.conn.now
    (λ rows. contents rows ≡ map (λ name. named_values name l.class l.key)
    (take l.name-index l.names))
