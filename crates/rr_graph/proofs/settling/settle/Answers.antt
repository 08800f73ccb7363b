use Rattle.std.proofs.Common.{Option, Contains, inl, inr, subst, ◌∙◌}
use Rattle.std.specs.Global.{Vec}
use Rattle.std.specs.Option.{IfSome}
use Rattle.std.proofs.lemmas.Result.{err_from_is_err_and}
use Rattle.rr_graph.specs.Answered.{ListsInOrder}
use Rattle.rr_graph.specs.Carried.{IsFound}
use Rattle.rr_graph.specs.SettledParts.{IsKnownValueOr, values_at}
use Rattle.rr_graph.proofs.KnownNodes.{HoldsAllValues-entered, only_entered}
use Rattle.rr_graph.proofs.Listings.{MoreThan-weaker}
use Rattle.rr_graph.proofs.settling.settle.Goals as goal

pub returns-in_err-enter-clause-many : goal.returns-in_err-enter-clause-many
returns-in_err-enter-clause-many g c = λ is.
    let found = subst (λ (o : Option (Vec g.row.G-Value.Denot)).
    IfSome o (λ values. ListsInOrder g.G.Value.Ord.cmp (IsFound (g.G.Labelled.edge c.args.graph.now)
    (g.G.Labelled.own c.args.graph.now) g.G.Labelled.passed c.args.here.now.node.now) values.items))
    c.in-Some.is c.in_ok-values.ensures in
    let p = err_from_is_err_and c.from_residual-in_err-enter.result
    c.from_residual-in_err-enter.ensures.1 in
    MoreThan-weaker c.args.limit
    (IsKnownValueOr (values_at g.G.Node.Ord.cmp c.args.settled.now.values)
    c.in_ok-copy.field-0 (Contains c.in-Some.values.items))
    (IsKnownValueOr (values_at g.G.Node.Ord.cmp c.args.settled.now.values) c.args.here.now.node.now
    (IsFound (g.G.Labelled.edge c.args.graph.now) (g.G.Labelled.own c.args.graph.now)
    g.G.Labelled.passed c.args.here.now.node.now))
    (λ q held. elim held [
      | inl before ↦ inl before
      | inr here ↦
          inr (here.0 ∙ c.in_ok-copy.ensures, (found.all q.1).0 here.1)
    ])
    (c.in_err-enter.ensures.many (cc (is, p.1, p.2)))

pub returns-in_ok-enter-clause-held : goal.returns-in_ok-enter-clause-held
returns-in_ok-enter-clause-held g c = record {
  values = HoldsAllValues-entered (g.G.Labelled.edge c.args.graph.now)
      (g.G.Labelled.own c.args.graph.now) g.G.Labelled.passed g.G.Value.Ord.cmp
      (values_at g.G.Node.Ord.cmp c.args.settled.now.values) g.met.G.Labelled.exact_nodes
      (values_at g.G.Node.Ord.cmp c.enter.new.self.values)
      c.args.here.now.node.now c.in_ok-copy.field-0 c.in_ok-copy.ensures c.in-Some.values.items
      c.in_ok-enter.ensures.entered c.requires.held.values
      (subst (λ (o : Option (Vec g.row.G-Value.Denot)).
      IfSome o (λ values. ListsInOrder g.G.Value.Ord.cmp
      (IsFound (g.G.Labelled.edge c.args.graph.now) (g.G.Labelled.own c.args.graph.now)
      g.G.Labelled.passed c.args.here.now.node.now) values.items)) c.in-Some.is
      c.in_ok-values.ensures);
  tallied = c.in_ok-enter.ensures.tallied;
}

pub returns-in_ok-enter-clause-only : goal.returns-in_ok-enter-clause-only
returns-in_ok-enter-clause-only g c =
    only_entered (g.G.Labelled.edge c.args.graph.now) (g.G.Labelled.own c.args.graph.now)
    g.G.Labelled.passed g.G.Value.Ord.cmp
    (values_at g.G.Node.Ord.cmp c.args.settled.now.values) g.met.G.Labelled.exact_nodes
    (values_at g.G.Node.Ord.cmp c.enter.new.self.values)
    c.args.here.now.node.now c.in_ok-copy.field-0 c.in_ok-copy.ensures c.in-Some.values.items
    c.in_ok-enter.ensures.entered
