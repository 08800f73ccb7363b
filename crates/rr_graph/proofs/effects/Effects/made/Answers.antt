use Rattle.std.proofs.Common.{◌≡◌, Bool, true, false, not, refl, sym, ap, ◌∙◌, subst}
use Rattle.std.specs.BTreeMap.{BTreeMap, get}
use Rattle.std.specs.BTreeSet.{BTreeSet, contains}
use Rattle.std.specs.Ordering.{ordering_then}
use Rattle.std.specs.declared.cmp.Ordering.{Ordering}
use Rattle.rr_graph.specs.EffectParts.{AddsAtMost, AreChoices, IsMadeBut}
use Rattle.rr_graph.specs.declared.effects.Choice.{Choice}
use Rattle.rr_graph.proofs.effects.Effects.made.Goals as goal

-- what is not untrue is true
not-not : (b : Bool) → not (not b) ≡ b
not-not true = refl
not-not false = refl

pub returns-clause-made : goal.returns-clause-made
returns-clause-made g c = λ all same known.
    let Key : Type 0 = g.row.G-Node.Denot × g.row.G-Kind.Denot in
    let M : Type 0 = Key × g.row.G-Group.Denot in
    let kind_cmp : Key → Key → Ordering = λ x y. ordering_then (g.G.Node.Ord.cmp x.0 y.0)
    (g.G.Kind.Ord.cmp x.1 y.1) in
    let cmp : M → M → Ordering = λ x y. ordering_then (ordering_then (g.G.Node.Ord.cmp x.0.0 y.0.0)
    (g.G.Kind.Ord.cmp x.0.1 y.0.1)) (g.G.Group.Ord.cmp x.1 y.1) in
    let mark : M = (
      (c.args.head.now.node.now, g.G.Labelled.kind_of c.args.value),
      g.G.Labelled.group_of
          c.args.value,
    ) in
    let known_now : AreChoices g.G.Labelled.keeps g.G.Labelled.passed g.G.Labelled.kind_of all
    (get kind_cmp c.note.new.self.map) =
    c.in_ok-note.ensures.known all same
    (subst (λ (m : BTreeMap Key (Choice g.row.G-Node.Denot g.row.G-Label.Denot)).
    AreChoices g.G.Labelled.keeps g.G.Labelled.passed g.G.Labelled.kind_of all (get kind_cmp m))
    (sym c.mark.ensures.map) known) in
    let before : not c.in_ok-first.first ≡ contains cmp c.args.self.now.marks mark =
    ap not c.in_ok-first.ensures.marked.is_first ∙ not-not
    (contains cmp c.args.self.now.marks mark) in (
      subst (λ (b : Bool). IsMadeBut g.G.Labelled.keeps g.G.Labelled.passed
          c.args.head.now.edges.now
          c.args.value b c.in_ok-pairs.pairs.items) before
          (c.in_ok-pairs.ensures all same known_now),
      known_now,
    )

pub returns-clause-marked : goal.returns-clause-marked
returns-clause-marked g c =
    let Key : Type 0 = g.row.G-Node.Denot × g.row.G-Kind.Denot in
    let M : Type 0 = Key × g.row.G-Group.Denot in
    let cmp : M → M → Ordering = λ x y. ordering_then (ordering_then (g.G.Node.Ord.cmp x.0.0 y.0.0)
    (g.G.Kind.Ord.cmp x.0.1 y.0.1)) (g.G.Group.Ord.cmp x.1 y.1) in
    subst (λ (m : BTreeSet M). AddsAtMost (contains cmp c.args.self.now.marks) (contains cmp m) (
      (c.args.head.now.node.now, g.G.Labelled.kind_of c.args.value),
      g.G.Labelled.group_of
          c.args.value,
    ))
    (sym c.note.ensures.marks) c.in_ok-first.ensures.marked.marked
