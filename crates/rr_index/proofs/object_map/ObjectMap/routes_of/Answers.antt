use Rattle.std.proofs.Common.{sym}
use Rattle.std.specs.FinMap.{get}
use Rattle.std.specs.List.{filter}
use Rattle.rr_object.specs.declared.key.Key.TheVariants.{Route}
use Rattle.rr_book.proofs.IndexedObjects.{found_more, found_no_more}
use Rattle.rr_index.specs.Private.{is_of_origin}
use Rattle.rr_index.proofs.object_map.ObjectMap.routes_of.Goals as goal

pub loop-route-preserved-in-Continue-1 : goal.loop-route-preserved-in-Continue-1
loop-route-preserved-in-Continue-1 c =
    found_more (λ route. get c.args.self.now (Route route.1 route.0))
    (filter (is_of_origin c.args.origin) c.args.origins.now.routes.keys) c.loop-route.found.items
    c.push.new.self.items c.in-Some-route.object c.in-Some.route.now
    c.loop-route.route-iterator c.next.new.self
    c.loop-route.invariant c.in-Some.ensures.steps (sym c.in-Some-route.ensures)
    c.in_ok-push.ensures.items

pub loop-route-preserved : goal.loop-route-preserved
loop-route-preserved c =
    found_no_more (λ route. get c.args.self.now (Route route.1 route.0))
    (filter (is_of_origin c.args.origin) c.args.origins.now.routes.keys) c.loop-route.found.items
    c.in-Some.route.now c.loop-route.route-iterator c.next.new.self
    c.loop-route.invariant c.in-Some.ensures.steps (sym c.in_default.ensures)
