use Rattle.std.proofs.Common.{sym, subst}
use Rattle.rr_cover.specs.TreeParts.{IsParting}
use Rattle.rr_cover.proofs.TreeParting.{parting_lies}
use Rattle.rr_cover.proofs.TreeAdded.{rooted_on, root_on}
use Rattle.rr_cover.proofs.prefix_tree.adding.part.Goals as goal

pub returns-clause-root : goal.returns-clause-root
returns-clause-root g c = λ p side is_p lies rooted.
    let node = c.args.node.value in
    let fork = c.in-Some.fork.value in
    let parting : IsParting fork.prefix node.prefix c.args.root =
    subst (λ r. IsParting r node.prefix c.args.root) (sym c.in-Some.ensures)
    (rw c.deref-2.ensures at c.parting.ensures) in
    rooted_on c.beside.result fork.prefix p side c.beside.ensures.root
    (parting_lies p fork.prefix node.prefix c.args.root side is_p parting lies
    (root_on c.args.tree.now c.args.root p side c.requires.ready.root rooted))
