use Rattle.std.proofs.Common.{Option, ℕ, refl, ap, subst, ◌∙◌}
use Rattle.std.specs.Prelude.{IsSome, unwrap_or, ◌-◌}
use Rattle.rr_index.proofs.Namings.{none_down, one_down}
use Rattle.rr_index.proofs.naming_index.NamingIndex.lessen.Goals as goal

pub returns-in-Some-clause-lowered : goal.returns-in-Some-clause-lowered
returns-in-Some-clause-lowered c =
    let after = c.take_one.new.count in
    let there = c.in-Some.ensures.value in
    one_down c.args.self.now.counts (c.get_mut.follows.lender after) c.args.name.now after
    ((c.get_mut.follows.holds after).3 (subst IsSome there refl)).0
    (c.take_one.ensures.taken ∙ ap (λ (o : Option ℕ). unwrap_or o 0 - 1) there)

pub returns-in-None-clause-lowered : goal.returns-in-None-clause-lowered
returns-in-None-clause-lowered c =
    none_down c.args.self.now.counts c.get_mut.follows.lender-at-none c.args.name.now
    c.get_mut.follows.holds-at-none c.in-None.ensures.value
