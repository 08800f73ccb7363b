use Rattle.std.proofs.Common.{◌≡◌, ◌∙◌, Bool, List, Option, Some, ap, not, sym, subst}
use Rattle.std.specs.BTreeMap.{get}
use Rattle.std.specs.List.{filter_map}
use Rattle.std.specs.Ordering.{ordering_then}
use Rattle.std.specs.declared.cmp.Ordering.{Ordering}
use Rattle.std.proofs.lemmas.Result.{IfOk-weaker}
use Rattle.rr_graph.specs.EffectParts.{IsChoice, AreChoices, IsMadeBut}
use Rattle.rr_graph.specs.declared.effects.Choice.{Choice}
use Rattle.rr_graph.specs.declared.labels.Edge.{Edge}
use Rattle.rr_graph.proofs.Enough.{IsMadeBut-all, IsMadeBut-keeping, pair_by}
use Rattle.rr_graph.proofs.effects.Effects.chosen.Goals as goal

-- what is held under a key is a choice of the edges of its node
held_choice : {N L V K : Type 0} (keeps : L → Bool) (passed : L → V → Option V) (kind_of : V → K)
    (all : N → List (Edge N L)) (at : N × K → Option (Choice N L)) (node : N) (value : V)
    (edges : List (Edge N L)) (key : N × K) (choice : Choice N L) → all node ≡ edges →
    AreChoices keeps passed kind_of all at → at key ≡ Some choice → key ≡ (node, kind_of value) →
    IsChoice keeps passed edges value choice
held_choice {N} {L} {V} {K} keeps passed kind_of all at node value edges key choice same known held
    is =
    subst (λ (l : List (Edge N L)). IsChoice keeps passed l value choice) same
    (known node value choice (subst (λ (k : N × K). at k ≡ Some choice) is held))

pub returns-then-first : goal.returns-then-first
returns-then-first g c = λ all same known.
    let Key : Type 0 = g.row.G-Node.Denot × g.row.G-Kind.Denot in
    let cmp : Key → Key → Ordering = λ x y. ordering_then (g.G.Node.Ord.cmp x.0 y.0)
    (g.G.Kind.Ord.cmp x.1 y.1) in
    IfOk-weaker c.carried-then-first.result _ _
    (λ pairs made. subst (λ (b : Bool). IsMadeBut g.G.Labelled.keeps g.G.Labelled.passed
    c.args.head.now.edges.now c.args.value b pairs.items) (ap not (sym c.if-first.true)) made)
    (c.carried-then-first.ensures (held_choice g.G.Labelled.keeps g.G.Labelled.passed
    g.G.Labelled.kind_of all (get cmp c.args.self.now.map) c.args.head.now.node.now c.args.value
    c.args.head.now.edges.now c.in_ok-key.key c.in-Some.choice.now same known
    (sym c.in-Some.ensures.value) c.in_ok-key.ensures))

pub returns-in_default : goal.returns-in_default
returns-in_default g c = λ all same known.
    IfOk-weaker c.carried.result _ _
    (λ pairs is. IsMadeBut-all g.G.Labelled.keeps g.G.Labelled.passed c.args.head.now.edges.now
    c.args.value (not c.args.first) pairs.items is)
    c.carried.ensures

pub returns : goal.returns
returns g c = λ all same known.
    let Key : Type 0 = g.row.G-Node.Denot × g.row.G-Kind.Denot in
    let cmp : Key → Key → Ordering = λ x y. ordering_then (g.G.Node.Ord.cmp x.0 y.0)
    (g.G.Kind.Ord.cmp x.1 y.1) in
    IfOk-weaker c.carried-2.result _ _
    (λ pairs is. IsMadeBut-keeping g.G.Labelled.keeps g.G.Labelled.passed
    c.args.head.now.edges.now c.args.value c.in-Some.choice.now
    (held_choice g.G.Labelled.keeps g.G.Labelled.passed
    g.G.Labelled.kind_of all (get cmp c.args.self.now.map) c.args.head.now.node.now c.args.value
    c.args.head.now.edges.now c.in_ok-key.key c.in-Some.choice.now same known
    (sym c.in-Some.ensures.value) c.in_ok-key.ensures) (not c.args.first) pairs.items
    (ap not c.if-first.false)
    (is ∙ ap (filter_map (pair_by g.G.Labelled.passed c.args.value)) c.deref.ensures.value))
    c.carried-2.ensures
