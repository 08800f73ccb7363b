use Rattle.rr_desk.proofs.Opens.{four_open, in_order}
use Rattle.rr_desk.proofs.opening.opening_objects.Goals as goal

pub returns-clause-opening : goal.returns-clause-opening
returns-clause-opening c =
    four_open c.args.settings.now _ _ _ _ _
    (in_order _ _ _ _ _ _ _ _ _ c.in_ok-objects.ensures.items c.in_ok-objects-2.ensures
    c.in_ok-objects-3.ensures c.in_ok-objects-4.ensures c.in_ok-objects-5.ensures)
    c.in_ok-root.ensures.object c.in_ok-numbers.ensures c.in_ok-upper.ensures
    c.in_ok-addresses.ensures
