-- The last line of a report (profile): for `submit`. `tools/irr` and `web` read it.
use Rattle.std.specs.Prelude.{ℕ, List, ◌++◌, codes, decimal}
use Rattle.rr_submission.specs.declared.ending.Ending.{Ending}
use Rattle.rr_submission.specs.declared.ending.Ending.TheVariants.{Complete, ReadFault, Memory}
use Rattle.rr_submission.specs.declared.ending.Ending.TheVariants.{Stopped}

-- what stands in a last line before the count of items
abbrev pub before_count : Ending → List ℕ
before_count Complete = codes "% items "
before_count ReadFault = codes "% read fault after "
before_count Memory = codes "% memory after "
before_count Stopped = codes "% stopped after "

-- what stands in a last line after the count of items
abbrev pub after_count : Ending → List ℕ
after_count Complete = codes "\n"
after_count ReadFault = codes " items\n"
after_count Memory = codes " items\n"
after_count Stopped = codes " items\n"

-- the last line tells how the submission ended and how many items were decided
unfoldable pub last_line : Ending → ℕ → List ℕ
last_line ending items = before_count ending ++ decimal items ++ after_count ending
