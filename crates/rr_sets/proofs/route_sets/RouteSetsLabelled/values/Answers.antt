use Rattle.std.proofs.Common.{subst}
use Rattle.std.specs.Option.{option_copied}
use Rattle.rr_object.specs.declared.member.MemberSet.{MemberSet}
use Rattle.rr_sets.specs.RouteSets.{FindsSet}
use Rattle.rr_sets.proofs.route_sets.RouteSetsLabelled.values.Goals as goal

pub ranges_in-requires : goal.ranges_in-requires
ranges_in-requires g c =
    subst (λ (set : MemberSet). FindsSet (g.B.Book.contents c.args.self.now.book.now) set
    (option_copied c.args.object.now)) c.in-Set.is c.requires

pub returns-in-AutNum : goal.returns-in-AutNum
returns-in-AutNum g c = rw c.in-AutNum.is c.ranges_of_origin.ensures

pub returns-in-Set : goal.returns-in-Set
returns-in-Set g c = rw c.in-Set.is c.ranges_in.ensures
