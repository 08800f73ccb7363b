use Rattle.std.proofs.Common.{◌≡◌, take}
use Rattle.rr_object.specs.Objects.{lent}
use Rattle.rr_store.proofs.FillLemmas.{AreFilled}
use Rattle.rr_store.proofs.filling.add_objects.Given as goal

abbrev pub invariant-loop-object : goal.invariant-loop-object
invariant-loop-object g l = (l.tx.conn.ghost_name ≡ l.initial.tx.conn.ghost_name)
    × AreFilled g.S.Store l.initial.tx.conn.now l.tx.conn.now (lent (take l.object-index l.objects))
