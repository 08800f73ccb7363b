use Rattle.std.proofs.Common.{◌≡◌, ◌≤◌, ◌+◌, ◌-◌, ◌↔◌, ◌⊎◌, true, List, Contains, drop, length}
use Rattle.std.proofs.Common.{refl, sym, subst, take, arith}
use Rattle.std.specs.Option.{is_some}
use Rattle.std.proofs.lemmas.List.{take_all}
use Rattle.rr_graph.specs.SettledParts.{IsPassed, values_at}
use Rattle.rr_graph.specs.declared.labels.Edge.{Edge}
use Rattle.rr_graph.proofs.Runs.{IsPassed-made, IsPassed-run, IsRun-first, fits_after, known_run}
use Rattle.rr_graph.proofs.settling.add_passed.Goals as goal

pub loop-done-preserved : goal.loop-done-preserved
loop-done-preserved g c =
    let E : Type 0 = Edge g.row.G-Node.Denot g.row.G-Label.Denot in
    let at = values_at g.G.Node.Ord.cmp c.args.settled.now.values in
    let next = c.loop-done.done + 1 + c.run_length.result in
    let fits : next ≤ length c.args.edges.now = fits_after c.args.edges.now c.loop-done.done
    c.run_length.result c.loop-done-test.true c.run_length.ensures.within in
    let same : c.loop-done.done + (next - c.loop-done.done) ≡ next = omega arith in
    let run : List E = take (next - c.loop-done.done) (drop c.loop-done.done c.args.edges.now) in
    let one = IsRun-first c.args.edges.now c.loop-done.done c.run_length.result
    c.index-edges-done.result c.loop-done-test.true c.run_length.ensures.within
    (c.run_length.ensures.run g.met.G.Labelled.exact_nodes) in (
      fits,
      subst (λ n. (e : E) → Contains (take n c.args.edges.now) e →
          is_some (values_at g.G.Node.Ord.cmp c.args.settled.now.values e.to) ≡ true) same
          (known_run g.G.Labelled.passed (values_at g.G.Node.Ord.cmp c.args.settled.now.values)
          c.args.edges.now run c.loop-done.done (next - c.loop-done.done) _
          c.in-Some.starts.now refl one (sym c.in-Some.ensures) c.loop-done.invariant.1),
      subst (λ n. (v : g.row.G-Value.Denot) → Contains c.pass_run.new.collected.values.items v
          ↔ (Contains c.args.collected.now.values.items v ⊎ IsPassed g.G.Labelled.passed
          (values_at g.G.Node.Ord.cmp c.args.settled.now.values) (take n c.args.edges.now) v)) same
          (IsPassed-run g.G.Labelled.passed (values_at g.G.Node.Ord.cmp c.args.settled.now.values)
          c.args.collected.now.values.items c.loop-done.collected.values.items
          c.pass_run.new.collected.values.items
          c.args.edges.now run c.loop-done.done (next - c.loop-done.done) refl
          c.loop-done.invariant.2
          (IsPassed-made g.G.Labelled.passed (values_at g.G.Node.Ord.cmp c.args.settled.now.values)
          c.loop-done.collected.values.items c.pass_run.new.collected.values.items _ run
          c.in-Some.starts.now one
          (sym c.in-Some.ensures) c.in_ok-pass_run.ensures)),
    )

pub pass_run-requires : goal.pass_run-requires
pass_run-requires g c =
    IsRun-first c.args.edges.now c.loop-done.done c.run_length.result c.index-edges-done.result
    c.loop-done-test.true c.run_length.ensures.within
    (c.run_length.ensures.run g.met.G.Labelled.exact_nodes)

pub returns-clause-known : goal.returns-clause-known
returns-clause-known g c = λ _.
    subst (λ (l : List (Edge g.row.G-Node.Denot g.row.G-Label.Denot)).
    (e : Edge g.row.G-Node.Denot g.row.G-Label.Denot) → Contains l e →
    is_some (values_at g.G.Node.Ord.cmp c.args.settled.now.values e.to) ≡ true)
    (take_all c.loop-done.done c.args.edges.now c.loop-done-test.false) c.loop-done.invariant.1

pub returns-clause-passed : goal.returns-clause-passed
returns-clause-passed g c = λ _.
    subst (λ (l : List (Edge g.row.G-Node.Denot g.row.G-Label.Denot)). (v : g.row.G-Value.Denot) →
    Contains c.loop-done.collected.values.items v ↔ (Contains c.args.collected.now.values.items v
    ⊎ IsPassed g.G.Labelled.passed (values_at g.G.Node.Ord.cmp c.args.settled.now.values) l v))
    (take_all c.loop-done.done c.args.edges.now c.loop-done-test.false) c.loop-done.invariant.2
