use Rattle.std.proofs.Common.{◌≡◌, false, sym, ◌∙◌, rules}
use Rattle.std.specs.Ordering.{eq_by_cmp}
use Rattle.rr_number.specs.Prefixes.{span_of}
use Rattle.rr_number.specs.Spans.{span_cmp}
use Rattle.rr_cover.specs.PrefixTrees.{in_upper}
use Rattle.rr_cover.specs.TreeParts.{standing}
use Rattle.rr_cover.proofs.TreeAdded.{rooted_on, root_masked, lies_lower, one_way, above_all}
use Rattle.rr_cover.proofs.prefix_tree.adding.above.Goals as goal

-- what is not in the upper half is in the lower one
pub make_root-requires-else-is_upper : goal.make_root-requires-else-is_upper
make_root-requires-else-is_upper g c =
    let node = c.args.node.value in
    let apart : in_upper node.prefix (span_of c.args.root) ≡ false =
    sym (rw (c.deref.ensures, c.span.ensures) at c.if-is_upper.ensures) in
    let lies = lies_lower node.prefix c.args.root c.requires.ready.masked
    (root_masked c.args.tree c.args.root c.requires.ready.tree c.requires.ready.root)
    c.requires.covered
    (λ same. one_way node.prefix c.args.root c.requires.short same) apart in (
      record {
        masked = c.requires.ready.masked;
        low = rooted_on c.args.tree c.args.root node.prefix false
            c.requires.ready.root lies;
        high = tt;
      },
      (c.requires.ready.tree, tt),
    )

pub returns-else-is_upper : goal.returns-else-is_upper
returns-else-is_upper g c = record {
  all = λ s.
      c.make_root-else-is_upper.ensures.all s ∙ above_all
      (eq_by_cmp span_cmp s (span_of c.args.node.value.prefix)) c.args.value
      (standing c.args.tree s);
  tree = search rules;
  root = search rules;
}
