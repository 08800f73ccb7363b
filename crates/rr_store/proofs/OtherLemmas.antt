-- What else a file has stays over changes in a row.
use Rattle.std.proofs.Common.{◌≡◌, List, refl, sym, ap, subst, ◌∙◌}
use Rattle.std.specs.List.{AllByRecursion}
use Rattle.sqlite_rules.specs.Edit.{IsNoIndex}
use Rattle.sqlite_schema.specs.declared.schema.Schema.{Schema}
use Rattle.sqlite_schema.specs.declared.schema.Table.{Table}
use Rattle.sqlite_trees.proofs.ListLemmas.{all_both, all_of}
use Rattle.sqlite.specs.Effect.{Database}
use Rattle.rr_store.specs.Contents.{IsOfOther, KeepsOthers}
use Rattle.rr_store.specs.Entries.{StoredEntry}
use Rattle.rr_store.specs.Made.{HasItsTables, no_schema, with_named}
use Rattle.rr_store.specs.Maps.{IsFilled}
use Rattle.rr_store.specs.Tables.{HasTables, laid}

abbrev StaysAs : Database → Database → Table → Type 0
StaysAs old new t = IsOfOther t.tree → new.trees t.tree ≡ old.trees t.tree

pub others_itself : (db : Database) → KeepsOthers db db
others_itself db = record {
  schema = refl;
  tables = all_of (StaysAs db db) (λ t other. refl)
      db.schema.tables;
  trees = λ tree other none. refl;
}

pub others_then : (a b c : Database) → KeepsOthers a b → KeepsOthers b c → KeepsOthers a c
others_then a b c first second = record {
  schema = second.schema ∙ first.schema;
  tables = all_both (StaysAs a b) (StaysAs b c) (StaysAs a c) (λ t one two other. two other
      ∙ one other) a.schema.tables first.tables
      (subst (λ (s : Schema). AllByRecursion (StaysAs b c) s.tables) first.schema second.tables);
  trees = λ tree other none. second.trees tree other
      (subst (λ s. IsNoIndex s tree) (sym first.schema) none) ∙ first.trees tree other none;
}

pub no_tables : (schema : Schema) → HasTables schema → schema ≡ no_schema → ⊥
no_tables schema has none = let e : (laid has.layout).tables ≡ no_schema.tables =
    ap (λ (s : Schema). s.tables) (sym has.is ∙ none) in absurd (cc)

-- tables that are filled and stay are those that stood
pub tables_stand : (entries : List StoredEntry) (old new : Database) → IsFilled entries new →
    KeepsOthers old new → HasItsTables old new
tables_stand entries old new filled others =
    record {
      made = λ blank. absurd (no_tables new.schema filled.rows.tidy.has (others.schema ∙ blank));
      kept = λ bare. others;
    }

-- and where nothing stood, they are those that were made
pub tables_made : (old new : Database) → old.schema ≡ no_schema → new.schema ≡ with_named →
    HasItsTables old new
tables_made old new blank schema = record {
  made = λ none. schema;
  kept = λ bare.
      absurd (no_tables old.schema bare.tidy.has blank);
}
