-- The codes of refused items, as reports print them.
use Rattle.std.specs.Prelude.{ℕ, List, codes}
use Rattle.rr_object.specs.declared.code.Code.{Code}
use Rattle.rr_object.specs.declared.code.Code.TheVariants.{E01, E02, E03, E04, E05, E06, E07, E10}
use Rattle.rr_object.specs.declared.code.Code.TheVariants.{E11, E12, E13, E14, E15, E16, E17, E18}
use Rattle.rr_object.specs.declared.code.Code.TheVariants.{E90, E91, E92}

-- a code as reports print it (profile)
abbrev pub code_name : Code → List ℕ
code_name E01 = codes "E01"
code_name E02 = codes "E02"
code_name E03 = codes "E03"
code_name E04 = codes "E04"
code_name E05 = codes "E05"
code_name E06 = codes "E06"
code_name E07 = codes "E07"
code_name E10 = codes "E10"
code_name E11 = codes "E11"
code_name E12 = codes "E12"
code_name E13 = codes "E13"
code_name E14 = codes "E14"
code_name E15 = codes "E15"
code_name E16 = codes "E16"
code_name E17 = codes "E17"
code_name E18 = codes "E18"
code_name E90 = codes "E90"
code_name E91 = codes "E91"
code_name E92 = codes "E92"
