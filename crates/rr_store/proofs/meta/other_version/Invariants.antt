use Rattle.std.proofs.Common.{◌≡◌, ◌≢◌, ℕ, ◌<◌, ◌^◌, get_or, codes}
use Rattle.std.specs.Prelude.{decimal}
use Rattle.sqlite_value.specs.Order.{Row}
use Rattle.rr_store.specs.Contents.{meta_row}
use Rattle.rr_store.specs.Versions.{version_number}
use Rattle.rr_store.proofs.meta.other_version.Given as goal

abbrev pub invariant-loop-row : goal.invariant-loop-row
invariant-loop-row l = (k : ℕ) (d : Row) → k < l.row-index → (n : ℕ) → n < 2 ^ 32 →
    n ≢ version_number l.version → get_or l.rows k d ≡ meta_row (codes "version") (decimal n) → ⊥
