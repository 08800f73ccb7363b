use Rattle.std.proofs.Common.{◌≡◌, true, sym, ◌∙◌, rules}
use Rattle.rr_cover.specs.SpanNests.{is_ahead, at_span, standing}
use Rattle.rr_cover.proofs.NestTurns.{only_rest, first_of_all, only_made, after_chain, split_all}
use Rattle.rr_cover.proofs.span_nest.changes.+split_first.Goals as goal

pub rebalance-rest-requires : goal.rebalance-rest-requires
rebalance-rest-requires g t c = record {
  fits = let root = c.args.root.value in
      let first = c.split_first-first.result.0.value in
      let rest = c.split_first-first.result.1 in
      record {
        ordered = c.requires.fits.ordered;
        ahead = only_rest (λ s. is_ahead s root.span) c.args.before first.span first.value rest
            (record {
              all = λ s. c.split_first-first.ensures.all s
                  ∙ sym (c.in-Some.ensures.some.all s);
            }) c.requires.fits.ahead;
        after = c.requires.fits.after;
      };
  nests = search rules;
}

pub returns-clause-all : goal.returns-clause-all
returns-clause-all g t c = λ s.
    let root = c.args.root.value in
    let first = c.split_first-first.result.0.value in
    let rest = c.split_first-first.result.1 in
    split_all first.span first.value s (standing c.args.before s) (at_span root.span root.value s)
    (standing c.args.after s) (standing rest s) (standing c.rebalance-rest.result s)
    (c.split_first-first.ensures.all s ∙ sym (c.in-Some.ensures.some.all s))
    (c.rebalance-rest.ensures.all s)

pub returns-clause-first : goal.returns-clause-first
returns-clause-first g t c =
    let root = c.args.root.value in
    let first = c.split_first-first.result.0.value in
    let rest = c.split_first-first.result.1 in
    let ahead : is_ahead first.span root.span ≡ true = first_of_all (λ s. is_ahead s root.span)
    c.args.before first.span first.value rest
    (record {
      all = λ s. c.split_first-first.ensures.all s ∙ sym (c.in-Some.ensures.some.all s);
    }) c.requires.fits.ahead in
    only_made (λ s. is_ahead first.span s) c.rebalance-rest.result root.span root.value rest
    c.args.after (record { all = c.rebalance-rest.ensures.all })
    c.split_first-first.ensures.first ahead (after_chain first.span root.span c.args.after
    ahead c.requires.fits.after)
