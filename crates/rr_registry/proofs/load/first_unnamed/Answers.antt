use Rattle.std.proofs.Common.{◌∙◌}
use Rattle.std.specs.BTreeSet.{contains}
use Rattle.std.specs.Cmp.Lexicographic.{slice_cmp}
use Rattle.std.specs.Ordering.{nat_cmp}
use Rattle.rr_registry.proofs.Gathering.{place_by_names}
use Rattle.rr_registry.proofs.load.first_unnamed.Goals as goal

pub returns-clause-value : goal.returns-clause-value
returns-clause-value c =
    c.first_without.ensures.value ∙ place_by_names c.args.objects.now
    (contains (slice_cmp nat_cmp) c.in_ok-mntners.mntners) c.in_ok-mntners.ensures
