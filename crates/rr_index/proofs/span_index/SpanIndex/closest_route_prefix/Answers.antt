use Rattle.rr_index.proofs.Questions.{no_routes, routes_of_closest}
use Rattle.rr_index.proofs.span_index.SpanIndex.closest_route_prefix.Goals as goal

pub returns-in-Some : goal.returns-in-Some
returns-in-Some c = λ r sound has. routes_of_closest r _ _ _ sound has c.args.prefix c.in-Some.own
    tt c.length-length.ensures.holds c.in-Some.ensures.found

pub returns-in-None : goal.returns-in-None
returns-in-None c = λ r sound has. no_routes r _ _ _ sound has c.args.prefix c.in-None.ensures.none
