use Rattle.std.proofs.Common.{sym}
use Rattle.std.specs.Prelude.{find}
use Rattle.std.specs.Ordering.{eq_by_cmp}
use Rattle.rr_object.specs.KeyOrders.{key_cmp}
use Rattle.rr_book.proofs.IndexedObjects.{found_more, found_no_more}
use Rattle.rr_book.proofs.set_index.objects_of.Goals as goal

pub loop-key-preserved-in-Continue-1 : goal.loop-key-preserved-in-Continue-1
loop-key-preserved-in-Continue-1 c =
    found_more (λ key. find (λ o. eq_by_cmp key_cmp key o.key) c.args.objects.now)
    c.args.keys.now.keys c.loop-key.found.items c.push.new.self.items c.in-Some-find_by_key.object
    c.in-Some.key.now c.loop-key.key-iterator c.next.new.self
    c.loop-key.invariant c.in-Some.ensures.steps (sym c.in-Some-find_by_key.ensures)
    c.in_ok-push.ensures.items

pub loop-key-preserved : goal.loop-key-preserved
loop-key-preserved c =
    found_no_more (λ key. find (λ o. eq_by_cmp key_cmp key o.key) c.args.objects.now)
    c.args.keys.now.keys c.loop-key.found.items c.in-Some.key.now c.loop-key.key-iterator
    c.next.new.self
    c.loop-key.invariant c.in-Some.ensures.steps (sym c.in_default.ensures)
