use Rattle.std.proofs.Common.{ℕ, List, subst, sym}
use Rattle.std.specs.Option.{option_copied}
use Rattle.rr_auth.specs.Registries.{LooksUp}
use Rattle.rr_object.specs.declared.key.Key.TheVariants.{AsSet}
use Rattle.rr_sets.proofs.as_sets.reached_sets.Goals as goal

pub reach-requires : goal.reach-requires
reach-requires g c =
    subst (λ (name : List ℕ). LooksUp (g.B.Book.contents c.args.book.now) (AsSet name)
    (option_copied c.args.set)) (sym c.in_ok-start.ensures) c.requires

pub returns : goal.returns
returns g c = rw c.in_ok-start.ensures at c.reach.ensures
