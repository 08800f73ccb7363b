-- Lemmas on what a look at a database finds.
use Rattle.std.proofs.Common.{IsTrue}
use Rattle.rr_commands.specs.Found.{is_of_tables, is_of_unmigrated, is_of_unopened}
use Rattle.rr_commands.specs.declared.trouble.Trouble.{Trouble}
use Rattle.rr_commands.specs.declared.trouble.Trouble.TheVariants as trouble

-- what is found of how tables were made is found of tables that are not opened
pub tables_unopened : (found : Trouble) → IsTrue (is_of_tables found)
    → IsTrue (is_of_unopened found)
tables_unopened trouble.OtherOrder h = h
tables_unopened trouble.OtherTables h = h
tables_unopened trouble.Obstacle h = h
tables_unopened _ h = cc

-- and of tables that are not migrated
pub tables_unmigrated : (found : Trouble) → IsTrue (is_of_tables found)
    → IsTrue (is_of_unmigrated found)
tables_unmigrated trouble.OtherOrder h = h
tables_unmigrated trouble.OtherTables h = h
tables_unmigrated trouble.Obstacle h = h
tables_unmigrated _ h = cc
