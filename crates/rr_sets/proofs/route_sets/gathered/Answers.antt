use Rattle.std.proofs.Common.{ℕ, List, subst, sym}
use Rattle.std.specs.Option.{option_copied}
use Rattle.rr_object.specs.declared.member.MemberSet.TheVariants.{Set}
use Rattle.rr_sets.specs.RouteSets.{FindsSet}
use Rattle.rr_sets.proofs.route_sets.gathered.Goals as goal

pub gather-requires : goal.gather-requires
gather-requires g c =
    subst (λ (name : List ℕ). FindsSet (g.B.Book.contents c.args.book.now) (Set name)
    (option_copied c.args.set)) (sym c.in_ok-copy.ensures) c.requires

pub returns : goal.returns
returns g c = rw c.in_ok-copy.ensures at c.gather.ensures
