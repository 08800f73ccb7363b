use Rattle.std.proofs.Common.{Option, Some, ℕ, refl, ap, subst, ◌∙◌}
use Rattle.std.specs.Prelude.{IsSome, unwrap_or, ◌+◌}
use Rattle.std.proofs.lemmas.Result.{on_err_weaker, on_ok_weaker}
use Rattle.rr_index.proofs.Namings.{first_up, one_up, same_under}
use Rattle.rr_index.proofs.naming_index.NamingIndex.count_up.Goals as goal

pub returns-in-Some-clause-ok : goal.returns-in-Some-clause-ok
returns-in-Some-clause-ok c =
    let after = c.add_one.new.count in
    let there = c.in-Some.ensures.value in
    on_ok_weaker c.add_one.result (λ more.
    one_up c.args.self.now.counts (c.get_mut.follows.lender after) c.args.name.now after
    ((c.get_mut.follows.holds after).3 (subst IsSome there refl)).0
    (more ∙ ap (λ (o : Option ℕ). unwrap_or o 0 + 1) there)) c.add_one.ensures.ok

pub returns-in-Some-clause-err : goal.returns-in-Some-clause-err
returns-in-Some-clause-err c =
    let after = c.add_one.new.count in
    let there = c.in-Some.ensures.value in
    on_err_weaker c.add_one.result (λ same.
    same_under c.args.self.now.counts (c.get_mut.follows.lender after) c.args.name.now (Some after)
    ((c.get_mut.follows.holds after).3 (subst IsSome there refl)).0
    (same ∙ ap (λ (o : Option ℕ). unwrap_or o 0) there)) c.add_one.ensures.err

pub returns-in_ok-insert-in-None-clause-ok : goal.returns-in_ok-insert-in-None-clause-ok
returns-in_ok-insert-in-None-clause-ok c =
    first_up c.args.self.now.counts c.get_mut.follows.lender-at-none c.insert.new.self
    c.args.name.now c.in_ok-copy-in-None.field-0
    c.get_mut.follows.holds-at-none c.in-None.ensures.value c.in_ok-copy-in-None.ensures
    c.in_ok-insert-in-None.ensures.updates.0
