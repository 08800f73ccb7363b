use Rattle.std.proofs.Common.{sym, ap, subst, ◌∙◌}
use Rattle.std.specs.FinMap.{get, insert}
use Rattle.rr_cover.specs.SpanMaps.{crosses_some}
use Rattle.rr_cover.specs.SpanNests.{nested, IsSound}
use Rattle.rr_cover.proofs.NestModel.{nest_answers, nested_inserted, sound_inserted}
use Rattle.rr_cover.proofs.span_nest.SpanNest.insert_uncrossed.Goals as goal
use Rattle.rr_cover.proofs.span_nest.SpanNest.insert_uncrossed.Goals.{in-Ok, in-Err}

pub returns-clause-inserts : goal.returns-clause-inserts
returns-clause-inserts g c =
    elim c.match-set.branch [
      | in-Ok w ↦ rw w.result-is (record {
        stood = w.in-Ok.ensures.stood ∙ sym ((nest_answers c.self.inside.root).all c.args.span)
            ∙ ap (λ m. get m c.args.span) c.self.view_is;
        ok = nested_inserted c.self.inside.root c.set.new.nest c.args.span c.args.value
            w.in-Ok.ensures.puts.all ∙ ap (λ m. insert m c.args.span c.args.value) c.self.view_is;
        err = tt;
      })
      | in-Err w ↦ rw w.result-is (record {
        stood = tt;
        ok = tt;
        err = ap nested w.in-Err.ensures.puts.err ∙ c.self.view_is;
      })
    ]

pub invariant_of-self : goal.invariant_of-self
invariant_of-self g c =
    elim c.match-set.branch [
      | in-Ok w ↦ sound_inserted c.self.inside.root c.set.new.nest c.args.span c.args.value
          c.self.invariant c.set.ensures.puts.nest w.in-Ok.ensures.puts.all
          (ap (λ m. crosses_some m c.args.span) c.self.view_is ∙ c.requires)
      | in-Err w ↦ subst IsSound (sym w.in-Err.ensures.puts.err) c.self.invariant
    ]
