use Rattle.std.proofs.lemmas.Bool.{both_ways}
use Rattle.rr_store.proofs.checks.judge_version.Goals as goal

pub returns-else-is_version_row_alone-clause-fault :
    goal.returns-else-is_version_row_alone-clause-fault
returns-else-is_version_row_alone-clause-fault c = record {
  no_other = λ n low says. c.other_version.ensures.only n low says c.in_default.is;
  bad = λ is. both_ways c.is_version_row_alone.result c.if-is_version_row_alone.false
      (c.is_version_row_alone.ensures.only is);
}
