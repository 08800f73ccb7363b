use Rattle.std.proofs.Common.{sym, ap, ◌∙◌, arith}
use Rattle.rr_store.specs.Entries.{once}
use Rattle.rr_store.proofs.OnceLemmas.{once_few}
use Rattle.rr_store.proofs.names.maintainers_of.Goals as goal

pub returns-then-len-lt2 : goal.returns-then-len-lt2
returns-then-len-lt2 c = sym (once_few c.in_ok-all.all.items (omega arith))
    ∙ ap once c.in_ok-all.ensures
