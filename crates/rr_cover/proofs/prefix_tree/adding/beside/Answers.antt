use Rattle.std.proofs.Common.{◌∙◌, rules}
use Rattle.rr_cover.proofs.TreeAdded.{beside_all}
use Rattle.rr_cover.specs.TreeParts.{standing}
use Rattle.rr_cover.proofs.prefix_tree.adding.beside.Goals as goal

-- the tree before the node
pub returns-then-upper : goal.returns-then-upper
returns-then-upper g c = record {
  all = λ s.
      c.make_root.ensures.all s
      ∙ beside_all c.args.fork.value.prefix c.args.node.value.prefix c.args.root c.args.tree
      c.args.value c.requires.ready.tree c.requires.ready.root c.requires.parted s
      (standing c.make_root-leaf.result s) (c.make_root-leaf.ensures.all s);
  tree = search rules;
  root = search rules;
}
