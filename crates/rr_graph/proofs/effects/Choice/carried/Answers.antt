use Rattle.std.proofs.Common.{◌++◌, List, Option, ap, false, subst, ◌∙◌}
use Rattle.std.specs.Global.{Vec}
use Rattle.std.specs.List.{filter_map}
use Rattle.std.specs.Option.{IfSome}
use Rattle.std.proofs.lemmas.Result.{IfOk-weaker}
use Rattle.rr_graph.specs.EffectParts.{IsEnough, changed}
use Rattle.rr_graph.specs.declared.labels.Edge.{Edge}
use Rattle.rr_graph.proofs.Enough.{IsMadeBut-all, IsMadeBut-chosen, pair_by}
use Rattle.rr_graph.proofs.effects.Choice.carried.Goals as goal

pub returns-in_default : goal.returns-in_default
returns-in_default g c = λ _.
    IfOk-weaker c.carried.result _ _
    (λ pairs is. IsMadeBut-all g.G.Labelled.keeps g.G.Labelled.passed c.args.edges.now c.args.value
    false pairs.items is)
    c.carried.ensures

pub returns : goal.returns
returns g c = λ chosen.
    let E : Type 0 = Edge g.row.N.Denot g.row.L.Denot in
    let P : Type 0 = g.row.N.Denot × g.row.G-Value.Denot in
    let by : E → Option P = pair_by g.G.Labelled.passed c.args.value in
    let enough : IsEnough (changed g.G.Labelled.keeps g.G.Labelled.passed) c.args.edges.now
    c.args.value c.in-Some.changing.items =
    subst (λ (o : Option (Vec E)).
    IfSome o (λ kept. IsEnough (changed g.G.Labelled.keeps g.G.Labelled.passed)
    c.args.edges.now c.args.value kept.items)) c.in-Some.is chosen.changing in
    IsMadeBut-chosen g.G.Labelled.keeps g.G.Labelled.passed c.args.edges.now c.args.value
    c.args.self.now chosen c.in-Some.changing.items enough false
    c.append.new.self.items
    (c.in_ok-append.ensures.items ∙ ap (λ (l : List P). l ++ c.in_ok-more.more.items)
    (c.in_ok-pairs.ensures ∙ ap (filter_map by) c.deref.ensures.value)
    ∙ ap (λ (l : List P). filter_map by c.args.self.now.keeping.items ++ l)
    (c.in_ok-more.ensures ∙ ap (filter_map by) c.deref-2.ensures.value))
