use Rattle.std.proofs.Common.{◌≡◌}
use Rattle.std.specs.List.{AllByRecursion}
use Rattle.rr_store.specs.Contents.{contents}
use Rattle.rr_store.specs.Maps.{IsObjectOf}
use Rattle.rr_store.specs.ReadingParts.{AreRead}
use Rattle.rr_store.specs.Versions.{form_of}
use Rattle.rr_store.proofs.StreamLemmas.{HasRead}
use Rattle.rr_store.proofs.row_streams.take_objects.Given as goal

abbrev pub invariant-rows : goal.invariant-rows
invariant-rows g l = (l.rows.conn.ghost_name ≡ l.initial.rows.conn.ghost_name) × HasRead g.S.Store
    l.initial.rows.conn.now l.rows.conn.now (λ rows. AreRead (form_of l.version) l.source
    (contents rows) l.objects.items) × AllByRecursion (IsObjectOf l.source) l.objects.items
