use Rattle.std.proofs.Common.{sym, ap, ◌∙◌}
use Rattle.std.specs.FinMap.{get, insert}
use Rattle.rr_number.specs.Prefixes.{span_of}
use Rattle.rr_cover.specs.PrefixTrees.{held_by}
use Rattle.rr_cover.proofs.TreeModel.{tree_answers, tree_inserted}
use Rattle.rr_cover.proofs.prefix_tree.PrefixTree.insert.Goals as goal
use Rattle.rr_cover.proofs.prefix_tree.PrefixTree.insert.Goals.{in-Ok, in-Err}

pub returns-clause-inserts : goal.returns-clause-inserts
returns-clause-inserts g c =
    elim c.match-set.branch [
      | in-Ok w ↦ rw w.result-is (record {
        stood = w.in-Ok.ensures.stood
            ∙ sym ((tree_answers c.self.inside.root).all (span_of c.args.prefix))
            ∙ ap (λ m. get m (span_of c.args.prefix)) c.self.view_is;
        ok = tree_inserted c.self.inside.root c.set.new.tree (span_of c.args.prefix)
            c.args.value w.in-Ok.ensures.puts.all
            ∙ ap (λ m. insert m (span_of c.args.prefix) c.args.value) c.self.view_is;
        err = tt;
      })
      | in-Err w ↦ rw w.result-is (record {
        stood = tt;
        ok = tt;
        err = ap held_by w.in-Err.ensures.puts.err ∙ c.self.view_is;
      })
    ]
