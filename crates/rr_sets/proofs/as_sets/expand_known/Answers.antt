use Rattle.std.proofs.Common.{rules, ◌↔◌, ℕ, List, Contains, sym, subst}
use Rattle.std.proofs.lemmas.Result.{err_from_is_err_and}
use Rattle.rr_sets.specs.AsSets.{IsReachedSet}
use Rattle.rr_sets.proofs.Expanding.{expanded_fault}
use Rattle.rr_sets.proofs.as_sets.expand_known.Goals as goal

pub returns-in_err-reached : goal.returns-in_err-reached
returns-in_err-reached g c = λ known.
    let p = err_from_is_err_and c.from_residual.result c.from_residual.ensures.1 in
    expanded_fault _ _ known p.0 c.from_residual.result p.1 p.2 (λ over. over)
    c.in_err-reached.ensures

pub returns : goal.returns
returns g c = λ known.
    let named : (s : List ℕ) → Contains c.deref.result.now s ↔ IsReachedSet
    (g.B.Book.contents c.args.book.now) c.args.name.now s =
    subst (λ (l : List (List ℕ)). (s : List ℕ) → Contains l s ↔ IsReachedSet
    (g.B.Book.contents c.args.book.now) c.args.name.now s) (sym c.deref.ensures.value)
    c.in_ok-reached.ensures.found.nodes.all in record {
      found = record {
        found = record {
          all = λ n. (
            λ has. let r = (c.in_ok-members.ensures.found.all n).0 has in
                (r.0, (named r.0).0 r.1, r.2),
            λ (s, reached, direct).
                (c.in_ok-members.ensures.found.all n).1 (s, (named s).1 reached, direct),
          );
          sorted = c.in_ok-members.ensures.found.sorted;
        };
        missing = record {
          all = λ s. (
            λ has. let r = (c.in_ok-members.ensures.missing.all s).0 has in
                ((named s).0 r.0, r.1),
            λ (reached, none).
                (c.in_ok-members.ensures.missing.all s).1 ((named s).1 reached, none),
          );
          sorted = c.in_ok-members.ensures.missing.sorted;
        };
      };
      known = known;
      few = c.in_ok-reached.ensures.few;
      unknown = search rules;
      many_known = search rules;
      many = search rules;
    }
