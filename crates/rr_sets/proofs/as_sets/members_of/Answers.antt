use Rattle.std.proofs.Common.{◌≡◌, ℕ, List, Contains, Bool, true, false, refl, subst}
use Rattle.std.specs.Prelude.{not}
use Rattle.std.proofs.lemmas.Map.Lookups.{exact_bytes, exact_unsigned}
use Rattle.rr_sets.specs.AsSets.{has_as_set}
use Rattle.rr_graph.proofs.Lists.{Contains-filter}
use Rattle.rr_sets.proofs.as_sets.members_of.Goals as goal

-- what a test fails
untrue : (b : Bool) → not b ≡ true → b ≡ false
untrue false is = refl
untrue true is = cc

true_not : (b : Bool) → b ≡ false → not b ≡ true
true_not false is = refl
true_not true is = cc

pub returns-clause-found : goal.returns-clause-found
returns-clause-found g c = record {
  all = λ n. (
    λ has. (c.in_ok-found.ensures.found n).0
        ((c.in_ok-found-2.ensures.same exact_unsigned n).0 has),
    λ holds. (c.in_ok-found-2.ensures.same exact_unsigned n).1
        ((c.in_ok-found.ensures.found n).1 holds),
  );
  sorted = c.in_ok-found-2.ensures.sorted;
}

pub returns-clause-missing : goal.returns-clause-missing
returns-clause-missing g c =
    let test : List ℕ → Bool = λ x. not (has_as_set (g.B.Book.contents c.args.book.now) x) in
    record {
      all = λ s. (
        λ has.
            let r = (Contains-filter test c.args.names.now s).0
            (subst (λ (l : List (List ℕ)). Contains l s) c.in_ok-found.ensures.missing
            ((c.in_ok-missing.ensures.same exact_bytes s).0 has)) in
            (r.0, untrue (has_as_set (g.B.Book.contents c.args.book.now) s) r.1),
        λ (among, none). (c.in_ok-missing.ensures.same exact_bytes s).1
            (rw c.in_ok-found.ensures.missing ((Contains-filter test c.args.names.now s).1
            (among, true_not (has_as_set (g.B.Book.contents c.args.book.now) s) none))),
      );
      sorted = c.in_ok-missing.ensures.sorted;
    }
