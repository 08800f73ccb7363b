use Rattle.std.proofs.Common.{◌≡◌, ℕ, None, Some, sym, subst, ◌∙◌, cond, arith}
use Rattle.std.specs.BTreeMap.{get, is_at}
use Rattle.rr_graph.proofs.Placing.{IsPlaced-more, get_none}
use Rattle.rr_graph.proofs.numbered.places.Goals as goal

pub loop-place-init : goal.loop-place-init
loop-place-init g c = λ n j. (
  λ is. let wrong : None ≡ Some j =
      sym (get_none g.G.Node.Ord.cmp c.new-places.result c.new-places.ensures.empty n) ∙ is in cc,
  λ both. absurd (omega (arith, both.0)),
)

pub loop-place-preserved : goal.loop-place-preserved
loop-place-preserved g c =
    IsPlaced-more g.met.G.Node.Ord.total g.met.G.Labelled.exact_nodes c.args.nodes.now c.requires
    c.loop-place.place c.index-nodes-place.result (get g.G.Node.Ord.cmp c.loop-place.places)
    (get g.G.Node.Ord.cmp c.insert.new.self) c.loop-place-test.true c.index-nodes-place.is
    c.loop-place.invariant
    (subst (λ (place : ℕ). (q : g.row.G-Node.Denot) → get g.G.Node.Ord.cmp c.insert.new.self q
    ≡ cond (is_at (g.G.Node.Ord.cmp c.index-nodes-place.result) q) (Some place)
    (get g.G.Node.Ord.cmp c.loop-place.places q)) c.in_ok-narrow.ensures
    (subst (λ (node : g.row.G-Node.Denot). (q : g.row.G-Node.Denot) → get g.G.Node.Ord.cmp
    c.insert.new.self q ≡ cond (is_at (g.G.Node.Ord.cmp node) q) (Some c.in_ok-narrow.field-0)
    (get g.G.Node.Ord.cmp c.loop-place.places q)) c.in_ok-copy.ensures
    c.in_ok-insert.ensures.updates.0))

pub returns : goal.returns
returns g c = λ node place. (
  λ is. ((c.loop-place.invariant node place).0 is).1,
  λ at. (c.loop-place.invariant node place).1 (omega (arith, at.0, c.loop-place-test.false), at),
)
