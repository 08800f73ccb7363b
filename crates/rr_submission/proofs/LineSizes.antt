-- How long the parts of a line are.
use Rattle.std.proofs.Common.{ℕ, ◌≤◌, length, List, lit≤, arith}
use Rattle.std.proofs.lemmas.Bool.{and_parts, leb-true}
use Rattle.rr_bytes.specs.NameBytes.{is_name}
use Rattle.rr_number.specs.Names.{IsUpperName}
use Rattle.rr_number.specs.SetNames.{IsSetText, is_set_name}
use Rattle.rr_object.specs.Classes.{class_name}
use Rattle.rr_object.specs.Codes.{code_name}
use Rattle.rr_object.specs.declared.class.Class.{Class}
use Rattle.rr_object.specs.declared.class.Class.TheVariants.{Mntner, AsBlock, AutNum, Inetnum}
use Rattle.rr_object.specs.declared.class.Class.TheVariants.{Route, AsSet, RouteSet}
use Rattle.rr_object.specs.declared.code.Code.{Code}
use Rattle.rr_object.specs.declared.code.Code.TheVariants.{E01, E02, E03, E04, E05, E06, E07, E10}
use Rattle.rr_object.specs.declared.code.Code.TheVariants.{E11, E12, E13, E14, E15, E16, E17, E18}
use Rattle.rr_object.specs.declared.code.Code.TheVariants.{E90, E91, E92}
use Rattle.rr_registry.specs.declared.outcome.Outcome.{Outcome}
use Rattle.rr_registry.specs.declared.outcome.Outcome.TheVariants.{Added, Changed, Unchanged}
use Rattle.rr_registry.specs.declared.outcome.Outcome.TheVariants.{Deleted, Refused}
use Rattle.rr_submission.specs.declared.ending.Ending.{Ending}
use Rattle.rr_submission.specs.declared.ending.Ending.TheVariants.{Complete, ReadFault, Memory}
use Rattle.rr_submission.specs.declared.ending.Ending.TheVariants.{Stopped}
use Rattle.rr_submission.specs.Endings.{before_count, after_count}
use Rattle.rr_submission.specs.Reports.{outcome_word, refusal_code}

pub name_short : (name : List ℕ) → IsUpperName name → length name ≤ 255
unfolding is_name
name_short name h =
    let size : length name ≤ 80 = leb-true _ _ (and_parts _ _ h.spelled).0 in
    omega arith

pub set_name_short : (name : List ℕ) → IsSetText name → length name ≤ 255
unfolding is_set_name
set_name_short name h = leb-true _ _ (and_parts _ _ h.spelled).0

pub ruleset key_short = (name_short, set_name_short)

pub class_name_short : (class : Class) → length (class_name class) ≤ 9
class_name_short Mntner = lit≤ tt
class_name_short AsBlock = lit≤ tt
class_name_short AutNum = lit≤ tt
class_name_short Inetnum = lit≤ tt
class_name_short Route = lit≤ tt
class_name_short AsSet = lit≤ tt
class_name_short RouteSet = lit≤ tt

code_name_short : (code : Code) → length (code_name code) ≤ 3
code_name_short E01 = lit≤ tt
code_name_short E02 = lit≤ tt
code_name_short E03 = lit≤ tt
code_name_short E04 = lit≤ tt
code_name_short E05 = lit≤ tt
code_name_short E06 = lit≤ tt
code_name_short E07 = lit≤ tt
code_name_short E10 = lit≤ tt
code_name_short E11 = lit≤ tt
code_name_short E12 = lit≤ tt
code_name_short E13 = lit≤ tt
code_name_short E14 = lit≤ tt
code_name_short E15 = lit≤ tt
code_name_short E16 = lit≤ tt
code_name_short E17 = lit≤ tt
code_name_short E18 = lit≤ tt
code_name_short E90 = lit≤ tt
code_name_short E91 = lit≤ tt
code_name_short E92 = lit≤ tt

pub outcome_word_short : (outcome : Outcome) → length (outcome_word outcome) ≤ 9
outcome_word_short Added = lit≤ tt
outcome_word_short Changed = lit≤ tt
outcome_word_short Unchanged = lit≤ tt
outcome_word_short Deleted = lit≤ tt
outcome_word_short (Refused code) = lit≤ tt

pub refusal_code_short : (outcome : Outcome) → length (refusal_code outcome) ≤ 3
refusal_code_short Added = lit≤ tt
refusal_code_short Changed = lit≤ tt
refusal_code_short Unchanged = lit≤ tt
refusal_code_short Deleted = lit≤ tt
refusal_code_short (Refused code) = code_name_short code

pub ruleset outcome_short = (outcome_word_short, refusal_code_short)

pub before_count_short : (ending : Ending) → length (before_count ending) ≤ 19
before_count_short Complete = lit≤ tt
before_count_short ReadFault = lit≤ tt
before_count_short Memory = lit≤ tt
before_count_short Stopped = lit≤ tt

pub after_count_short : (ending : Ending) → length (after_count ending) ≤ 7
after_count_short Complete = lit≤ tt
after_count_short ReadFault = lit≤ tt
after_count_short Memory = lit≤ tt
after_count_short Stopped = lit≤ tt
