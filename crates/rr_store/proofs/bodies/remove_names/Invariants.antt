use Rattle.std.proofs.Common.{◌≡◌, take}
use Rattle.rr_store.specs.Contents.{RemovesRows, is_name_among}
use Rattle.rr_store.proofs.AddingLemmas.{HasAltered}
use Rattle.rr_store.proofs.bodies.remove_names.Given as goal

abbrev pub invariant-loop-name : goal.invariant-loop-name
invariant-loop-name g l = (l.tx.conn.ghost_name ≡ l.initial.tx.conn.ghost_name)
    × HasAltered g.S.Store l.initial.tx.conn.now l.tx.conn.now
    (RemovesRows (is_name_among l.class l.key (take l.name-index l.names)))
