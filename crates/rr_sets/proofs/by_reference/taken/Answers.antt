use Rattle.std.proofs.Common.{◌∙◌}
use Rattle.std.specs.BTreeSet.{contains}
use Rattle.std.specs.Cmp.Lexicographic.{slice_cmp}
use Rattle.std.specs.Ordering.{nat_cmp}
use Rattle.std.proofs.lemmas.Result.{IfOk-weaker}
use Rattle.rr_sets.proofs.ByReference.{words_taken}
use Rattle.rr_sets.proofs.by_reference.taken.Goals as goal

pub returns : goal.returns
returns c =
    let listed = rw c.by_ref.ensures at c.in_ok-names.ensures in
    IfOk-weaker c.maintained.result _ _
    (λ objects is. is ∙ words_taken c.args.set.now.by_ref
    (contains (slice_cmp nat_cmp) c.in_ok-names.names) c.args.objects.now listed)
    (rw c.by_ref_any.ensures at c.maintained.ensures)
