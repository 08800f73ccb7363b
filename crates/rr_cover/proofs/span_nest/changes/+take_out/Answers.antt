use Rattle.std.proofs.Common.{◌≡◌, true, false, None, sym, rules}
use Rattle.std.specs.Ordering.{eq_by_cmp}
use Rattle.rr_number.specs.Spans.{span_cmp}
use Rattle.rr_cover.specs.SpanNests.{is_ahead}
use Rattle.rr_cover.proofs.Ties.{tied_same}
use Rattle.rr_cover.proofs.NestOrder.{ahead_other}
use Rattle.rr_cover.proofs.NestTurns.{only_changed, changed_low, changed_high, taken_out}
use Rattle.rr_cover.proofs.span_nest.changes.+take_out.Goals as goal

pub returns-then-is_same-clause-rest : goal.returns-then-is_same-clause-rest
returns-then-is_same-clause-rest g t c = record {
  all = let root = c.in-Some.root.value in
      let same : eq_by_cmp span_cmp c.args.span root.span ≡ true =
      sym (rw c.deref.ensures at c.if-is_same.ensures) in
      (taken_out c.args.nest root.span root.value c.in-Some.before c.in-Some.after
      c.in-Some.ensures.some c.args.span (tied_same c.args.span root.span same)
      c.join-rest.result c.join-rest.ensures.all).all;
  nest = search rules;
}

pub rebalance-requires : goal.rebalance-requires
rebalance-requires g t c = record {
  fits = let root = c.in-Some.root.value in
      let opened = c.in-Some.ensures.some in
      let first : is_ahead c.args.span root.span ≡ true =
      sym (rw c.deref-2.ensures at c.if-is_ahead.ensures) in
      record {
        ordered = opened.fits.ordered;
        ahead = only_changed (λ s. is_ahead s root.span) c.in-Some.before c.take_out-value.result.1
            c.args.span None (record { all = c.take_out-value.ensures.rest.all }) first
            opened.fits.ahead;
        after = opened.fits.after;
      };
  nests = search rules;
}

pub rebalance-requires-else-is_ahead : goal.rebalance-requires-else-is_ahead
rebalance-requires-else-is_ahead g t c = record {
  fits = let root = c.in-Some.root.value in
      let opened = c.in-Some.ensures.some in
      let apart : eq_by_cmp span_cmp c.args.span root.span ≡ false =
      sym (rw c.deref.ensures at c.if-is_same.ensures) in
      let later : is_ahead c.args.span root.span ≡ false =
      sym (rw c.deref-2.ensures at c.if-is_ahead.ensures) in
      record {
        ordered = opened.fits.ordered;
        ahead = opened.fits.ahead;
        after = only_changed (λ s. is_ahead root.span s) c.in-Some.after
            c.take_out-value-else-is_ahead.result.1 c.args.span None
            (record { all = c.take_out-value-else-is_ahead.ensures.rest.all })
            (ahead_other c.args.span root.span apart later) opened.fits.after;
      };
  nests = search rules;
}

pub returns-then-is_ahead-clause-rest : goal.returns-then-is_ahead-clause-rest
returns-then-is_ahead-clause-rest g t c = record {
  all = let root = c.in-Some.root.value in
      let opened = c.in-Some.ensures.some in
      let first : is_ahead c.args.span root.span ≡ true =
      sym (rw c.deref-2.ensures at c.if-is_ahead.ensures) in
      (changed_low c.args.nest root.span root.value c.in-Some.before c.in-Some.after opened
      c.args.span None c.take_out-value.result.1 c.rebalance.result first
      (record { all = c.take_out-value.ensures.rest.all })
      (record { all = c.rebalance.ensures.all })).all;
  nest = search rules;
}

pub returns-else-is_ahead-clause-rest : goal.returns-else-is_ahead-clause-rest
returns-else-is_ahead-clause-rest g t c = record {
  all = let root = c.in-Some.root.value in
      let opened = c.in-Some.ensures.some in
      let apart : eq_by_cmp span_cmp c.args.span root.span ≡ false =
      sym (rw c.deref.ensures at c.if-is_same.ensures) in
      let later : is_ahead c.args.span root.span ≡ false =
      sym (rw c.deref-2.ensures at c.if-is_ahead.ensures) in
      (changed_high c.args.nest root.span root.value c.in-Some.before c.in-Some.after opened
      c.args.span None c.take_out-value-else-is_ahead.result.1 c.rebalance-else-is_ahead.result
      (ahead_other c.args.span root.span apart later)
      (record { all = c.take_out-value-else-is_ahead.ensures.rest.all })
      (record { all = c.rebalance-else-is_ahead.ensures.all })).all;
  nest = search rules;
}
