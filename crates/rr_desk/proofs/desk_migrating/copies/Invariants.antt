use Rattle.std.proofs.Common.{◌≡◌, take}
use Rattle.rr_desk.proofs.desk_migrating.copies.Given as goal

abbrev pub invariant-loop-object : goal.invariant-loop-object
invariant-loop-object l = l.copies.items ≡ take l.object-index l.objects
