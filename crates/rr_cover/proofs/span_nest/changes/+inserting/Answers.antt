use Rattle.std.proofs.Common.{◌≡◌, true, false, ap, sym, subst}
use Rattle.std.specs.Ordering.{eq_by_cmp}
use Rattle.rr_number.specs.Spans.{span_cmp}
use Rattle.rr_cover.specs.SpanNests.{is_ahead, standing, IsNest}
use Rattle.rr_cover.specs.NestParts.{count}
use Rattle.rr_cover.proofs.NestOrder.{ahead_other}
use Rattle.rr_cover.proofs.NestPut.{node_low, node_high, opened_of, all_low, all_high}
use Rattle.rr_cover.proofs.NestTurns.{missing_apart}
use Rattle.rr_cover.proofs.span_nest.changes.+inserting.Goals as goal

pub insert_below-returns-then-is_ahead : goal.insert_below-returns-then-is_ahead
insert_below-returns-then-is_ahead g t c = record {
  all = let leaf = c.args.leaf.value in
      let node = c.in-Fork.node.value in
      let is = subst IsNest c.in-Fork.is c.requires.order in
      let opened = opened_of c.args.nest.now node.span node.value node.bounds node.before node.after
      (record { all = λ s. ap (λ n. standing n s) c.in-Fork.is }) is (ap count c.in-Fork.is) in
      let ahead : is_ahead leaf.span node.span ≡ true =
      sym (rw (c.deref-in-Fork.ensures, c.deref-in-Fork-2.ensures) at c.if-is_ahead.ensures) in
      rw (c.grow_before.ensures, c.deref_mut-then-is_ahead.ensures.value, c.deref_mut.ensures.value)
      (all_low c.args.nest.now node.span node.value node.before node.after opened leaf.span
      leaf.value c.insert_node.new.nest ahead
      (record { all = rw c.deref_mut.ensures.value at c.insert_node.ensures.all }));
  nest = let leaf = c.args.leaf.value in
      let node = c.in-Fork.node.value in
      let is = subst IsNest c.in-Fork.is c.requires.order in
      let ahead : is_ahead leaf.span node.span ≡ true =
      sym (rw (c.deref-in-Fork.ensures, c.deref-in-Fork-2.ensures) at c.if-is_ahead.ensures) in
      rw (
        c.grow_before.ensures,
        c.last-last.ensures.value,
        c.deref.ensures,
        c.deref_mut-then-is_ahead.ensures.value,
        c.deref_mut.ensures.value,
      )
      (node_low node.span node.bounds node.before node.after c.insert_node.new.nest leaf.span
      leaf.value is ahead
      (record { all = rw c.deref_mut.ensures.value at c.insert_node.ensures.all })
      c.insert_node.ensures.nest);
}

pub insert_below-returns-else-is_ahead : goal.insert_below-returns-else-is_ahead
insert_below-returns-else-is_ahead g t c = record {
  all = let leaf = c.args.leaf.value in
      let node = c.in-Fork.node.value in
      let is = subst IsNest c.in-Fork.is c.requires.order in
      let opened = opened_of c.args.nest.now node.span node.value node.bounds node.before node.after
      (record { all = λ s. ap (λ n. standing n s) c.in-Fork.is }) is (ap count c.in-Fork.is) in
      let after : is_ahead leaf.span node.span ≡ false =
      sym (rw (c.deref-in-Fork.ensures, c.deref-in-Fork-2.ensures) at c.if-is_ahead.ensures) in
      let apart : eq_by_cmp span_cmp leaf.span node.span ≡ false = missing_apart c.args.nest.now
      node.span node.value node.before node.after opened leaf.span c.requires.missing in
      rw (
        c.grow_after.ensures,
        c.deref_mut-else-is_ahead-2.ensures.value,
        c.deref_mut-else-is_ahead.ensures.value,
      ) (all_high c.args.nest.now node.span node.value
      node.before node.after opened leaf.span leaf.value c.insert_node-else-is_ahead.new.nest
      (ahead_other leaf.span node.span apart after)
      (record {
        all = rw c.deref_mut-else-is_ahead.ensures.value at
            c.insert_node-else-is_ahead.ensures.all;
      }));
  nest = let leaf = c.args.leaf.value in
      let node = c.in-Fork.node.value in
      let is = subst IsNest c.in-Fork.is c.requires.order in
      let opened = opened_of c.args.nest.now node.span node.value node.bounds node.before node.after
      (record { all = λ s. ap (λ n. standing n s) c.in-Fork.is }) is (ap count c.in-Fork.is) in
      let after : is_ahead leaf.span node.span ≡ false =
      sym (rw (c.deref-in-Fork.ensures, c.deref-in-Fork-2.ensures) at c.if-is_ahead.ensures) in
      let apart : eq_by_cmp span_cmp leaf.span node.span ≡ false = missing_apart c.args.nest.now
      node.span node.value node.before node.after opened leaf.span c.requires.missing in
      rw (
        c.grow_after.ensures,
        c.last-last.ensures.value,
        c.deref.ensures,
        c.deref_mut-else-is_ahead-2.ensures.value,
        c.deref_mut-else-is_ahead.ensures.value,
      )
      (node_high node.span node.bounds node.before node.after
      c.insert_node-else-is_ahead.new.nest leaf.span leaf.value is
      (ahead_other leaf.span node.span apart after)
      (record {
        all = rw c.deref_mut-else-is_ahead.ensures.value at
            c.insert_node-else-is_ahead.ensures.all;
      }) c.insert_node-else-is_ahead.ensures.nest);
}
