use Rattle.std.proofs.Common.{◌≡◌, ◌++◌, ◌∷◌, [], Bool, List, not, true, false, refl, sym, subst}
use Rattle.std.proofs.Common.{ap, ◌∙◌}
use Rattle.std.specs.BTreeSet.{Updates, contains}
use Rattle.std.specs.Ordering.{ordering_then}
use Rattle.std.specs.declared.cmp.Ordering.{Ordering}
use Rattle.std.proofs.lemmas.Cmp.{on_total, then_total}
use Rattle.std.proofs.lemmas.Map.Lookups.{exact_pairs}
use Rattle.rr_graph.specs.EffectParts.{IsDistinct, changed}
use Rattle.rr_graph.specs.declared.labels.Edge.{Edge}
use Rattle.rr_graph.proofs.Enough.{IsDistinct-again, IsDistinct-dropped, IsDistinct-fewer}
use Rattle.rr_graph.proofs.Enough.{IsDistinct-push}
use Rattle.rr_graph.proofs.effects.KeptEdges.add.Goals as goal

-- what is not untrue is true
true-by : (b : Bool) → not b ≡ false → b ≡ true
true-by true is = refl
true-by false is = sym is

pub returns-in_default : goal.returns-in_default
returns-in_default g c = λ edges before.
    IsDistinct-dropped (changed g.G.Labelled.keeps g.G.Labelled.passed)
    (then_total (on_total (λ (p : g.row.G-Node.Denot × g.row.G-Value.Denot). p.0)
    g.met.G.Node.Ord.total) (on_total (λ (p : g.row.G-Node.Denot × g.row.G-Value.Denot). p.1)
    g.met.G.Value.Ord.total)) (exact_pairs g.G.Node.Ord.cmp g.G.Value.Ord.cmp
    g.met.G.Labelled.exact_nodes g.met.G.Labelled.exact_values) c.args.value
    edges c.args.self.now.edges.items c.args.self.now.made c.args.edge.now before
    (sym c.changed.ensures ∙ c.in_default.is)

pub returns-then-not-first : goal.returns-then-not-first
returns-then-not-first g c = λ edges before.
    let P : Type 0 = g.row.G-Node.Denot × g.row.G-Value.Denot in
    let cmp : P → P → Ordering = λ x y. ordering_then (g.G.Node.Ord.cmp x.0 y.0)
    (g.G.Value.Ord.cmp x.1 y.1) in
    let total = then_total (on_total (λ (p : P). p.0) g.met.G.Node.Ord.total)
    (on_total (λ (p : P). p.1) g.met.G.Value.Ord.total) in
    let exact = exact_pairs g.G.Node.Ord.cmp g.G.Value.Ord.cmp g.met.G.Labelled.exact_nodes
    g.met.G.Labelled.exact_values in
    let by = changed g.G.Labelled.keeps g.G.Labelled.passed in
    let turned : IsDistinct cmp by c.args.value edges c.turn_to.new.self.edges.items
    c.turn_to.new.self.made =
    subst (λ (l : List (Edge g.row.G-Node.Denot g.row.G-Label.Denot)).
    IsDistinct cmp by c.args.value edges l c.turn_to.new.self.made)
    (ap (λ v. v.items) (sym c.turn_to.ensures.edges))
    (IsDistinct-fewer by total exact c.args.value edges c.args.self.now.edges.items
    c.args.self.now.made c.turn_to.new.self.made c.turn_to.ensures.made before) in
    let there : contains cmp c.turn_to.new.self.made (c.in_ok-copy.field-0, c.in-Some.passed)
    ≡ true =
    true-by (contains cmp c.turn_to.new.self.made (c.in_ok-copy.field-0, c.in-Some.passed))
    (sym c.in_ok-first.ensures.added ∙ c.if-not-first.true) in
    IsDistinct-again by total exact c.args.value edges c.turn_to.new.self.edges.items
    c.turn_to.new.self.made c.args.edge.now turned c.in-Some.passed c.insert.new.self
    (sym c.changed.ensures ∙ c.in-Some.is)
    (subst (λ (to : g.row.G-Node.Denot). contains cmp c.turn_to.new.self.made
    (to, c.in-Some.passed) ≡ true) c.in_ok-copy.ensures there)
    (subst (λ (to : g.row.G-Node.Denot). Updates cmp c.turn_to.new.self.made c.insert.new.self
    (to, c.in-Some.passed) true) c.in_ok-copy.ensures c.in_ok-first.ensures.updates)

pub returns : goal.returns
returns g c = λ edges before.
    let P : Type 0 = g.row.G-Node.Denot × g.row.G-Value.Denot in
    let cmp : P → P → Ordering = λ x y. ordering_then (g.G.Node.Ord.cmp x.0 y.0)
    (g.G.Value.Ord.cmp x.1 y.1) in
    let total = then_total (on_total (λ (p : P). p.0) g.met.G.Node.Ord.total)
    (on_total (λ (p : P). p.1) g.met.G.Value.Ord.total) in
    let exact = exact_pairs g.G.Node.Ord.cmp g.G.Value.Ord.cmp g.met.G.Labelled.exact_nodes
    g.met.G.Labelled.exact_values in
    let by = changed g.G.Labelled.keeps g.G.Labelled.passed in
    let turned : IsDistinct cmp by c.args.value edges c.turn_to.new.self.edges.items
    c.turn_to.new.self.made =
    subst (λ (l : List (Edge g.row.G-Node.Denot g.row.G-Label.Denot)).
    IsDistinct cmp by c.args.value edges l c.turn_to.new.self.made)
    (ap (λ v. v.items) (sym c.turn_to.ensures.edges))
    (IsDistinct-fewer by total exact c.args.value edges c.args.self.now.edges.items
    c.args.self.now.made c.turn_to.new.self.made c.turn_to.ensures.made before) in
    let set : Updates cmp c.turn_to.new.self.made c.insert.new.self (
      c.args.edge.now.to,
      c.in-Some.passed,
    ) true =
    subst (λ (to : g.row.G-Node.Denot). Updates cmp c.turn_to.new.self.made c.insert.new.self
    (to, c.in-Some.passed) true) c.in_ok-copy.ensures c.in_ok-first.ensures.updates in
    let pushed : c.push.new.self.items ≡ c.turn_to.new.self.edges.items ++ c.args.edge.now ∷ [] =
    c.in_ok-push.ensures.items ∙ ap (λ (to : g.row.G-Node.Denot). c.turn_to.new.self.edges.items ++
    record { to = to; label = c.args.edge.now.label } ∷ []) c.in_ok-to.ensures in
    subst (λ (l : List (Edge g.row.G-Node.Denot g.row.G-Label.Denot)).
    IsDistinct cmp by c.args.value (edges ++ c.args.edge.now ∷ []) l c.insert.new.self)
    (sym pushed)
    (IsDistinct-push by total exact c.args.value edges c.turn_to.new.self.edges.items
    c.turn_to.new.self.made c.args.edge.now turned c.in-Some.passed c.insert.new.self
    (sym c.changed.ensures ∙ c.in-Some.is) set)
