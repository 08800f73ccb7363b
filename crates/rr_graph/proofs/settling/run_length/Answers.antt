use Rattle.std.proofs.Common.{◌≡◌, inl, inr, true, sym, subst, ◌∙◌}
use Rattle.std.proofs.lemmas.List.{take_all}
use Rattle.std.proofs.lemmas.Map.Views.{tells_apart}
use Rattle.std.specs.List.{Contains}
use Rattle.rr_graph.specs.declared.labels.Edge.{Edge}
use Rattle.rr_graph.proofs.Backwards.{Contains-take_cases}
use Rattle.rr_graph.proofs.Lists.{Contains-nil}
use Rattle.rr_graph.proofs.Runs.{Contains-whole, not_false}
use Rattle.rr_graph.proofs.settling.run_length.Goals as goal

pub loop-place-init : goal.loop-place-init
loop-place-init g c = λ exact e has. absurd (Contains-nil e has)

pub loop-place-preserved : goal.loop-place-preserved
loop-place-preserved g c = λ exact e has.
    elim (Contains-take_cases c.args.edges.now c.loop-place.place c.index-edges-place.result e
    c.loop-place-test.true c.index-edges-place.is has) [
      | inl earlier ↦ c.loop-place.invariant exact e earlier
      | inr same ↦
          let equal : g.N.PartialEq.eq c.index-edges-place.result.to c.args.node.now ≡ true =
          not_false (g.N.PartialEq.eq c.index-edges-place.result.to c.args.node.now)
          (sym c.ne.ensures ∙ c.if-ne.false) in
          subst (λ (f : Edge g.row.N.Denot g.row.L.Denot). f.to ≡ c.args.node.now) same
          (tells_apart exact c.index-edges-place.result.to c.args.node.now
          (sym (g.met.N.Ord.matches_eq c.index-edges-place.result.to c.args.node.now) ∙ equal))
    ]

pub returns-then-ne-clause-run : goal.returns-then-ne-clause-run
returns-then-ne-clause-run g c = c.loop-place.invariant

pub returns-clause-run : goal.returns-clause-run
returns-clause-run g c = λ exact e has.
    c.loop-place.invariant exact e
    (subst (λ l. Contains l e)
    (sym (take_all c.loop-place.place c.args.edges.now c.loop-place-test.false))
    (Contains-whole _ c.args.edges.now e has))
