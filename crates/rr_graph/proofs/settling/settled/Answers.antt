use Rattle.std.proofs.Common.{◌≡◌, ◌∙◌, Contains, None, Some, sym, subst}
use Rattle.std.proofs.lemmas.Result.{err_from_is_err_and}
use Rattle.rr_graph.specs.Carried.{IsFound}
use Rattle.rr_graph.specs.SettledParts.{HoldsAllWithin, IsAmong, IsFoundAmong, IsKnownValueOr}
use Rattle.rr_graph.specs.SettledParts.{values_at}
use Rattle.rr_graph.specs.declared.settled.Settled.{Settled}
use Rattle.rr_graph.proofs.KnownNodes.{IsFoundAmong-held, IsTallied-none, among_only}
use Rattle.rr_graph.proofs.Listings.{MoreThan-weaker}
use Rattle.rr_graph.proofs.settling.settled.Goals as goal
use Rattle.rr_graph.proofs.settling.settled.Goals.{in-Some+in_ok-settle, in_default}

pub loop-place-init : goal.loop-place-init
loop-place-init g c = (
  record {
    values = λ node values is. let wrong : None
        ≡ Some values = sym (c.new-settled.ensures.none node) ∙ is in cc;
    tallied = IsTallied-none (values_at g.G.Node.Ord.cmp c.new-settled.result.values) c.args.limit
        c.new-settled.result.pairs c.new-settled.ensures.none c.new-settled.ensures.count;
  },
  λ node values is. let wrong : None ≡ Some values = sym (c.new-settled.ensures.none node) ∙ is in
      cc,
)

pub loop-place-preserved : goal.loop-place-preserved
loop-place-preserved g c =
    let Kept : Settled g.row.G.Denot g.row.G-Node.Denot g.row.G-Look.Denot g.row.G-Label.Denot
    g.row.G-Value.Denot
    g.row.G-Kind.Denot g.row.G-Group.Denot → Type 0 =
    λ settled. HoldsAllWithin (g.G.Labelled.edge c.args.graph.now)
    (g.G.Labelled.own c.args.graph.now) g.G.Labelled.passed g.G.Value.Ord.cmp
    (values_at g.G.Node.Ord.cmp settled.values) c.args.limit settled.pairs
    × IsAmong c.args.ordered.now.nodes.now (values_at g.G.Node.Ord.cmp settled.values) in
    elim c.match-get.branch [
      | in-Some+in_ok-settle w ↦
          let listed : Contains c.args.ordered.now.nodes.now w.in-Some.node.now = (
            _,
            w.in-Some.ensures.lookup.3.0,
            sym (w.in-Some.ensures.lookup.3.1 w.in-Some.node.now),
          ) in
          subst Kept (sym w.settled-is) (
            w.in_ok-settle.ensures.held,
            among_only c.args.ordered.now.nodes.now w.in-Some.node.now
                (values_at g.G.Node.Ord.cmp c.loop-place.settled.values)
                (values_at g.G.Node.Ord.cmp w.settle.new.settled.values) listed
                c.loop-place.invariant.1 w.in_ok-settle.ensures.only,
          )
      | in_default w ↦ subst Kept (sym w.settled-is) c.loop-place.invariant
    ]

pub returns-in_err-settle-clause-many : goal.returns-in_err-settle-clause-many
returns-in_err-settle-clause-many g c = λ is.
    let listed : Contains c.args.ordered.now.nodes.now c.in-Some.node.now =
    (_, c.in-Some.ensures.lookup.3.0, sym (c.in-Some.ensures.lookup.3.1 c.in-Some.node.now)) in
    let p = err_from_is_err_and c.from_residual.result c.from_residual.ensures.1 in
    MoreThan-weaker c.args.limit
    (IsKnownValueOr (values_at g.G.Node.Ord.cmp c.loop-place.settled.values)
    c.in-Some.node.now (IsFound (g.G.Labelled.edge c.args.graph.now)
    (g.G.Labelled.own c.args.graph.now) g.G.Labelled.passed c.in-Some.node.now))
    (IsFoundAmong (g.G.Labelled.edge c.args.graph.now) (g.G.Labelled.own c.args.graph.now)
    g.G.Labelled.passed c.args.ordered.now.nodes.now)
    (IsFoundAmong-held (g.G.Labelled.edge c.args.graph.now) (g.G.Labelled.own c.args.graph.now)
    g.G.Labelled.passed g.G.Value.Ord.cmp
    (values_at g.G.Node.Ord.cmp c.loop-place.settled.values) c.args.ordered.now.nodes.now
    c.in-Some.node.now c.loop-place.invariant.0.values c.loop-place.invariant.1 listed)
    (c.in_err-settle.ensures.many (cc (is, p.1, p.2)))
