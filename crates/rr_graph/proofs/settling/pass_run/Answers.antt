use Rattle.std.proofs.Common.{◌≡◌, ◌↔◌, ◌⊎◌, ◌++◌, ◌∷◌, [], List, Contains, None, Some, ap, map}
use Rattle.std.proofs.Common.{refl, sym, subst, ◌∙◌}
use Rattle.std.specs.BTreeSet.{contains}
use Rattle.std.specs.Ordering.{ordering_then}
use Rattle.std.specs.declared.cmp.Ordering.{Ordering}
use Rattle.std.proofs.lemmas.List.{take_all}
use Rattle.rr_graph.specs.EffectParts.{Makes}
use Rattle.rr_graph.specs.SettledParts.{IsMade, IsRun}
use Rattle.rr_graph.specs.declared.labels.Edge.{Edge}
use Rattle.rr_graph.proofs.Enough.{IsCovered-more, IsCovered-none, there-made}
use Rattle.rr_graph.proofs.Runs.{Contains-earlier, Contains-made, Contains-value, IsMade-more}
use Rattle.rr_graph.proofs.Runs.{IsMade-none, IsMade-one, one_of}
use Rattle.rr_graph.proofs.settling.pass_run.Goals as goal

pub returns-in-len1 : goal.returns-in-len1
returns-in-len1 g c =
    let E : Type 0 = Edge g.row.G-Node.Denot g.row.G-Label.Denot in
    let single : c.args.head.now.edges.now ≡ c.edge-item.result ∷ [] =
    one_of c.args.head.now.edges.now
    c.edge-item.result c.in-len1.len_at_least c.in-len1.len_below c.edge-item.is in
    let same = c.dedup_if_doubled.ensures g.met.G.Labelled.exact_values in
    subst (λ (l : List E). (v : g.row.G-Value.Denot) →
    Contains c.dedup_if_doubled.new.self.values.items v
    ↔ (Contains c.args.collected.now.values.items v ⊎ IsMade g.G.Labelled.passed
    c.args.head.now.node.now l
    c.args.starts.now v)) (sym single)
    (λ v.
    let made = IsMade-one g.G.Labelled.passed c.args.collected.now.values.items
    c.pass_all.new.values.items
    c.args.starts.now c.args.head.now.node.now c.edge-item.result
    (subst (λ (l : List E). IsRun c.args.head.now.node.now l) single c.requires)
    c.in_ok-pass_all.ensures v in
    (λ h. made.0 ((same v).0 h), λ h. (same v).1 (made.1 h)))

pub loop-value-init : goal.loop-value-init
loop-value-init g c =
    let M : Type 0 = (g.row.G-Node.Denot × g.row.G-Kind.Denot) × g.row.G-Group.Denot in
    let mark_cmp : M → M → Ordering = λ x y.
    ordering_then (ordering_then (g.G.Node.Ord.cmp x.0.0 y.0.0) (g.G.Kind.Ord.cmp x.0.1 y.0.1))
    (g.G.Group.Ord.cmp x.1 y.1) in (
      λ node value choice is. let wrong : None ≡ Some choice =
          sym (c.new-effects.ensures.known (node, g.G.Labelled.kind_of value)) ∙ is in cc,
      IsCovered-none g.G.Labelled.keeps g.G.Labelled.passed g.G.Labelled.kind_of
          g.G.Labelled.group_of g.met.G.Labelled.same (λ (_ : g.row.G-Node.Denot).
          c.args.head.now.edges.now)
          (contains mark_cmp c.new-effects.result.marks)
          (λ (q : g.row.G-Node.Denot × g.row.G-Value.Denot).
          Contains c.args.collected.now.values.items q.1)
          c.new-effects.ensures.marks,
      IsMade-none g.G.Labelled.passed c.args.collected.now.values.items c.args.head.now.node.now
          c.args.head.now.edges.now,
    )

pub loop-value-preserved : goal.loop-value-preserved
loop-value-preserved g c =
    let P : Type 0 = g.row.G-Node.Denot × g.row.G-Value.Denot in
    let M : Type 0 = (g.row.G-Node.Denot × g.row.G-Kind.Denot) × g.row.G-Group.Denot in
    let mark_cmp : M → M → Ordering = λ x y.
    ordering_then (ordering_then (g.G.Node.Ord.cmp x.0.0 y.0.0) (g.G.Kind.Ord.cmp x.0.1 y.0.1))
    (g.G.Group.Ord.cmp x.1 y.1) in
    let all : g.row.G-Node.Denot → List (Edge g.row.G-Node.Denot g.row.G-Label.Denot) = λ _.
    c.args.head.now.edges.now in
    let old : List g.row.G-Value.Denot = c.loop-value.collected.values.items in
    let now : List g.row.G-Value.Denot = c.add_made.new.values.items in
    let new : List g.row.G-Value.Denot = c.dedup_if_doubled-in-loop-value.new.self.values.items in
    let pairs : List P = c.in_ok-made.made.items in
    let (made, known) = c.in_ok-made.ensures.made all refl c.loop-value.invariant.0 in
    let pushed : now ≡ old ++ map (λ (q : P). q.1) pairs = c.in_ok-add_made.ensures
    ∙ ap (λ (l : List P). old ++ map (λ (q : P). q.1) l) c.deref.ensures.value in
    let same = c.dedup_if_doubled-in-loop-value.ensures g.met.G.Labelled.exact_values in
    let there : (q : P) → Makes g.G.Labelled.passed c.value-item.result c.args.head.now.edges.now
    q.0 q.1 →
    Contains new q.1 =
    there-made g.G.Labelled.keeps g.G.Labelled.passed g.G.Labelled.kind_of g.G.Labelled.group_of
    g.met.G.Labelled.same all (contains mark_cmp c.loop-value.effects.marks)
    (contains mark_cmp c.made.new.self.marks) (λ (q : P). Contains old q.1)
    (λ (q : P). Contains new q.1) c.args.head.now.node.now c.value-item.result pairs
    c.loop-value.invariant.1 made (λ q. Contains-earlier g.G.Labelled.passed old now new pairs
    pushed same q.1) (Contains-value g.G.Labelled.passed old now new pairs pushed same) in (
      known,
      IsCovered-more g.G.Labelled.keeps g.G.Labelled.passed g.G.Labelled.kind_of
          g.G.Labelled.group_of g.met.G.Labelled.same all
          (contains mark_cmp c.loop-value.effects.marks) (contains mark_cmp c.made.new.self.marks)
          (λ (q : P). Contains old q.1) (λ (q : P). Contains new q.1) c.args.head.now.node.now
          c.value-item.result pairs
          c.loop-value.invariant.1 made (λ q. Contains-earlier g.G.Labelled.passed old now new
          pairs pushed same q.1) (Contains-value g.G.Labelled.passed old now new pairs pushed
          same) c.in_ok-made.ensures.marked,
      IsMade-more g.G.Labelled.passed c.args.collected.now.values.items old new c.args.starts.now
          c.loop-value.value-index c.value-item.result c.args.head.now.node.now
          c.args.head.now.edges.now
          c.loop-value-test.true c.value-item.is c.loop-value.invariant.2
          (Contains-earlier g.G.Labelled.passed old now new pairs pushed same)
          (Contains-made g.G.Labelled.passed old now new pairs pushed same c.value-item.result
          c.args.head.now.node.now c.args.head.now.edges.now c.requires made.only)
          (λ v makes. there (c.args.head.now.node.now, v) makes),
    )

pub returns : goal.returns
returns g c =
    subst (λ (l : List g.row.G-Value.Denot). (v : g.row.G-Value.Denot) →
    Contains c.loop-value.collected.values.items v ↔ (Contains c.args.collected.now.values.items v
    ⊎ IsMade g.G.Labelled.passed c.args.head.now.node.now c.args.head.now.edges.now l v))
    (take_all c.loop-value.value-index c.args.starts.now c.loop-value-test.false)
    c.loop-value.invariant.2
