use Rattle.std.proofs.Common.{◌≡◌, map, take}
use Rattle.rr_store.specs.Contents.{Adds, named_values}
use Rattle.rr_store.proofs.AddingLemmas.{HasAltered}
use Rattle.rr_store.proofs.bodies.add_names.Given as goal

abbrev pub invariant-loop-name : goal.invariant-loop-name
invariant-loop-name g l = (l.tx.conn.ghost_name ≡ l.initial.tx.conn.ghost_name)
    × HasAltered g.S.Store l.initial.tx.conn.now l.tx.conn.now
    (Adds (map (λ name. named_values name l.class l.key) (take l.name-index l.names)))
