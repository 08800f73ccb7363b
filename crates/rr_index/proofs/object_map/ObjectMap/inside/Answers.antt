use Rattle.rr_index.proofs.Inside.{listed_both}
use Rattle.rr_index.proofs.object_map.ObjectMap.inside.Goals as goal

pub returns : goal.returns
returns c =
    listed_both c.args.self.now c.requires c.args.span c.in_ok-found.found.items
    c.in_ok-routes.routes.items c.deref.result.now c.extend_from_slice.new.self.items
    c.in_ok-found.ensures c.in_ok-routes.ensures c.deref.ensures.value
    c.in_ok-extend_from_slice.ensures.items
