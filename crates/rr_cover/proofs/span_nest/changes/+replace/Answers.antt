use Rattle.std.proofs.Common.{◌≡◌, false, ap, sym, subst, rules}
use Rattle.std.proofs.lemmas.Result.{on_ok_weaker}
use Rattle.std.specs.Ordering.{eq_by_cmp}
use Rattle.rr_number.specs.Spans.{span_cmp}
use Rattle.rr_cover.specs.SpanNests.{is_ahead, standing, IsNest}
use Rattle.rr_cover.specs.NestParts.{count}
use Rattle.rr_cover.proofs.NestOrder.{ahead_other}
use Rattle.rr_cover.proofs.NestPut.{opened_of, all_high}
use Rattle.rr_cover.proofs.NestTurns.{IsNode, kept_low, kept_high}
use Rattle.rr_cover.proofs.span_nest.changes.+replace.Goals as goal

pub returns-then-is_ahead-clause-puts : goal.returns-then-is_ahead-clause-puts
returns-then-is_ahead-clause-puts g t c = record {
  all = search rules;
  err = search rules;
  back = search rules;
  nest = let now = c.deref_mut-then-is_ahead.result.now in
      let is = subst (λ n. IsNode n.span n.bounds n.before n.after)
      (sym c.deref_mut-then-is_ahead.ensures.value) (subst IsNest c.in-Fork.is c.requires) in
      kept_low now.span now.bounds now.before now.after c.replace-then-is_ahead.new.nest is
      (record { all = c.replace-then-is_ahead.ensures.kept })
      c.replace-then-is_ahead.ensures.puts.nest;
}

pub returns-else-is_ahead-clause-puts : goal.returns-else-is_ahead-clause-puts
returns-else-is_ahead-clause-puts g t c = record {
  all = let node = c.in-Fork.node.value in
      let is = subst IsNest c.in-Fork.is c.requires in
      let opened = opened_of c.args.nest.now node.span node.value node.bounds node.before node.after
      (record { all = λ s. ap (λ n. standing n s) c.in-Fork.is }) is (ap count c.in-Fork.is) in
      let apart : eq_by_cmp span_cmp c.args.span node.span ≡ false =
      sym (rw c.deref.ensures at c.if-is_same.ensures) in
      let after : is_ahead c.args.span node.span ≡ false =
      sym (rw c.deref-else-is_same.ensures at c.if-is_ahead.ensures) in
      let all = rw c.deref_mut-else-is_ahead.ensures.value at
      c.replace-else-is_ahead.ensures.puts.all in
      on_ok_weaker c.replace-else-is_ahead.result
      (λ changed. rw c.deref_mut-else-is_ahead.ensures.value
      (all_high c.args.nest.now node.span node.value node.before node.after opened c.args.span
      c.args.value c.replace-else-is_ahead.new.nest (ahead_other c.args.span node.span apart
      after) (record { all = changed }))) all;
  err = search rules;
  back = search rules;
  nest = let now = c.deref_mut-else-is_ahead.result.now in
      let is = subst (λ n. IsNode n.span n.bounds n.before n.after)
      (sym c.deref_mut-else-is_ahead.ensures.value) (subst IsNest c.in-Fork.is c.requires) in
      kept_high now.span now.bounds now.before now.after c.replace-else-is_ahead.new.nest is
      (record { all = c.replace-else-is_ahead.ensures.kept })
      c.replace-else-is_ahead.ensures.puts.nest;
}
