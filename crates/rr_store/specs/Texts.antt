-- The SQL texts of the statements on the three tables, for proofs: each stands in `src/making.rt`,
-- `src/statements.rt` or `src/row_reading.rt` too, and is changed there and here.
use Rattle.std.specs.Prelude.{ℕ, List, ◌++◌, codes}

-- makes the table `meta`, if there is none (profile)
abbrev pub create_meta : List ℕ
create_meta = codes
    "CREATE TABLE IF NOT EXISTS meta (name TEXT NOT NULL PRIMARY KEY, value TEXT NOT NULL) STRICT"

-- makes the table `object`, if there is none; its classes are numbered 1 to 7 (profile)
abbrev pub create_object : List ℕ
create_object =
    codes "CREATE TABLE IF NOT EXISTS object (class INTEGER NOT NULL "
    ++ codes "CHECK (class >= 1 AND class <= 7), okey TEXT NOT NULL, body BLOB NOT NULL, "
    ++ codes "PRIMARY KEY (class, okey)) STRICT"

-- makes the table `named`, if there is none (profile)
abbrev pub create_named : List ℕ
create_named =
    codes "CREATE TABLE IF NOT EXISTS named (maintainer TEXT NOT NULL, class INTEGER NOT NULL, "
    ++ codes "okey TEXT NOT NULL, PRIMARY KEY (maintainer, class, okey)) STRICT"

-- adds a row of `meta`, of a name and a value
abbrev pub insert_meta : List ℕ
insert_meta = codes "INSERT INTO meta (name, value) VALUES (?1, ?2)"

-- adds a row of `object`, of a class, a key and a text
abbrev pub insert_object : List ℕ
insert_object = codes "INSERT INTO object (class, okey, body) VALUES (?1, ?2, ?3)"

-- adds a row of `named`, of a maintainer, a class and a key
abbrev pub insert_named : List ℕ
insert_named = codes "INSERT INTO named (maintainer, class, okey) VALUES (?1, ?2, ?3)"

-- takes out the rows of `object` of a class and a key
abbrev pub delete_object : List ℕ
delete_object = codes "DELETE FROM object WHERE class = ?1 AND okey = ?2"

-- takes out the rows of `named` of a maintainer, a class and a key
abbrev pub delete_name : List ℕ
delete_name = codes "DELETE FROM named WHERE maintainer = ?1 AND class = ?2 AND okey = ?3"

-- takes out all rows of `meta`
abbrev pub clear_meta : List ℕ
clear_meta = codes "DELETE FROM meta"

-- takes out all rows of `object`
abbrev pub clear_object : List ℕ
clear_object = codes "DELETE FROM object"

-- takes out all rows of `named`
abbrev pub clear_named : List ℕ
clear_named = codes "DELETE FROM named"

-- asks for the names and values of `meta`, in order
abbrev pub select_meta : List ℕ
select_meta = codes "SELECT name, value FROM meta ORDER BY name, value"

-- asks for the rows of `object` with their rowids, in order of these
abbrev pub select_object : List ℕ
select_object = codes "SELECT rowid, class, okey, body FROM object ORDER BY rowid"

-- asks for the rows of `object` of a class and a key
abbrev pub select_of_key : List ℕ
select_of_key = codes "SELECT class, okey, body FROM object WHERE class = ?1 AND okey = ?2"

-- asks for the rows of `named` with their rowids, in order of these
abbrev pub select_named : List ℕ
select_named = codes "SELECT rowid, maintainer, class, okey FROM named ORDER BY rowid"

-- asks for the rows of `named` by maintainer, class and key
abbrev pub select_sorted_named : List ℕ
select_sorted_named =
    codes "SELECT maintainer, class, okey FROM named ORDER BY maintainer, class, okey"

-- asks for the rowids of `meta`, in order
abbrev pub meta_numbers : List ℕ
meta_numbers = codes "SELECT rowid FROM meta ORDER BY rowid"

-- asks for the rowids of `object`, in order
abbrev pub object_numbers : List ℕ
object_numbers = codes "SELECT rowid FROM object ORDER BY rowid"

-- asks for the rowids of `named`, in order
abbrev pub named_numbers : List ℕ
named_numbers = codes "SELECT rowid FROM named ORDER BY rowid"
