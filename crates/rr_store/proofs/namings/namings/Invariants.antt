use Rattle.std.proofs.Common.{◌≡◌, map, flat_map, take}
use Rattle.rr_store.specs.Entries.{named_rows}
use Rattle.rr_store.specs.Maps.{entry_in}
use Rattle.rr_store.specs.NamingParts.{naming_row}
use Rattle.rr_store.specs.Versions.{form_of}
use Rattle.rr_store.proofs.namings.namings.Given as goal

abbrev pub invariant-loop-object : goal.invariant-loop-object
invariant-loop-object l = map naming_row l.all.items ≡ flat_map named_rows
    (map (entry_in (form_of l.version)) (take l.object-index l.objects))
