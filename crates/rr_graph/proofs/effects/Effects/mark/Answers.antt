use Rattle.std.proofs.Common.{◌≡◌, not, true, subst}
use Rattle.std.specs.BTreeSet.{contains, Updates}
use Rattle.std.specs.Ordering.{ordering_then}
use Rattle.std.specs.declared.cmp.Ordering.{Ordering}
use Rattle.std.proofs.lemmas.Map.Lookups.{exact_pairs}
use Rattle.rr_graph.proofs.Enough.{AddsAtMost-insert}
use Rattle.rr_graph.proofs.effects.Effects.mark.Goals as goal

pub returns-clause-marked : goal.returns-clause-marked
returns-clause-marked g c =
    let Kinds : Type 0 = g.row.G-Node.Denot × g.row.G-Kind.Denot in
    let kinds_cmp : Kinds → Kinds → Ordering = λ x y. ordering_then (g.G.Node.Ord.cmp x.0 y.0)
    (g.G.Kind.Ord.cmp x.1 y.1) in
    let cmp : Kinds × g.row.G-Group.Denot → Kinds × g.row.G-Group.Denot → Ordering = λ x y.
    ordering_then (kinds_cmp x.0 y.0) (g.G.Group.Ord.cmp x.1 y.1) in
    record {
      is_first = subst (λ (mark : Kinds × g.row.G-Group.Denot). c.in_ok-first.first
          ≡ not (contains cmp c.args.self.now.marks mark))
          (λ j. (c.in_ok-key.ensures j, c.group.ensures j))
          c.in_ok-first.ensures.added;
      marked = AddsAtMost-insert {cmp = cmp} (exact_pairs kinds_cmp g.G.Group.Ord.cmp
          (exact_pairs g.G.Node.Ord.cmp g.G.Kind.Ord.cmp g.met.G.Labelled.exact_nodes
          g.met.G.Labelled.exact_kinds) g.met.G.Labelled.exact_groups) c.args.self.now.marks
          c.insert.new.self (
            (c.args.node.now, g.G.Labelled.kind_of c.args.value),
            g.G.Labelled.group_of c.args.value,
          )
          (subst (λ (mark : Kinds × g.row.G-Group.Denot). Updates cmp c.args.self.now.marks
          c.insert.new.self mark true)
          (λ j. (c.in_ok-key.ensures j, c.group.ensures j))
          c.in_ok-first.ensures.updates);
    }
