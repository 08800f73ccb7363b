use Rattle.std.proofs.Common.{◌≡◌, map, flat_map, take}
use Rattle.rr_store.specs.Contents.{contents}
use Rattle.rr_store.specs.Entries.{named_rows}
use Rattle.rr_store.specs.Maps.{entry_in}
use Rattle.rr_store.specs.Versions.{form_of}
use Rattle.rr_store.proofs.StreamLemmas.{HasRead}
use Rattle.rr_store.proofs.row_streams.take_all_names.Given as goal

abbrev pub invariant-loop-object : goal.invariant-loop-object
invariant-loop-object g l = (l.rows.conn.ghost_name ≡ l.initial.rows.conn.ghost_name)
    × HasRead g.S.Store l.initial.rows.conn.now l.rows.conn.now
    (λ rows. contents rows ≡ flat_map named_rows
    (map (entry_in (form_of l.version)) (take l.object-index l.objects)))
