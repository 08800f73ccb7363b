use Rattle.std.proofs.Common.{sym, ap, ◌∙◌}
use Rattle.std.specs.FinMap.{get, remove}
use Rattle.rr_number.specs.Prefixes.{span_of}
use Rattle.rr_cover.proofs.TreeModel.{tree_answers, tree_removed}
use Rattle.rr_cover.proofs.prefix_tree.PrefixTree.remove.Goals as goal

pub returns : goal.returns
returns g c = record {
  value = c.take.ensures.value
      ∙ sym ((tree_answers c.self.inside.root).all (span_of c.args.prefix))
      ∙ ap (λ m. get m (span_of c.args.prefix)) c.self.view_is;
  rest = tree_removed c.self.inside.root c.take.new.tree (span_of c.args.prefix)
      c.take.ensures.all ∙ ap (λ m. remove m (span_of c.args.prefix)) c.self.view_is;
}
