-- What the three CREATE statements make of a blank database.
use Rattle.std.proofs.Common.{◌≡◌, ℕ, List, [], false, None, Ok, Result, refl, sym, ap, subst, ◌∙◌}
use Rattle.std.specs.List.{AllByRecursion}
use Rattle.sqlite_schema.specs.declared.schema.Table.{Table}
use Rattle.sqlite_schema.specs.declared.schema.Schema.{Schema}
use Rattle.sqlite_schema.specs.declared.command.Command.TheVariants.{CreateTable}
use Rattle.sqlite_resolve.specs.Compile.{table_defined_by}
use Rattle.sqlite_catalog.specs.Change.{created, next_tree}
use Rattle.sqlite.specs.Listing.{understood}
use Rattle.sqlite.specs.Effect.{Database}
use Rattle.sqlite.specs.Does.{Tally, lacks_sequence}
use Rattle.sqlite.specs.State.{State, Writes, Executes}
use Rattle.sqlite.proofs.Callers.{IsPlain, command_of, statement_of, runs_as}
use Rattle.sqlite_tied.specs.Compute.{everything}
use Rattle.rr_store.specs.Tables.{rules_of, HasTables}
use Rattle.rr_store.specs.Contents.{AreNumbered}
use Rattle.rr_store.specs.Texts.{create_meta, create_object, create_named}
use Rattle.rr_store.specs.Made.{no_schema, meta_table, object_table, named_table, with_meta}
use Rattle.rr_store.specs.Made.{with_object, with_named, Creates, IsBare}
use Rattle.rr_store.proofs.ChangeLemmas.{went}

same_value : {B E : Type 0} {a b : B} → ◌≡◌ {A = Result B E} (Ok a) (Ok b) → a ≡ b
same_value e = cc

pub record MeansTable (schema : Schema) (text : List ℕ) (table : Table) : Type 0 where
  pub is : command_of (understood schema text) ≡ CreateTable
  pub whole : statement_of text (understood schema text) ≡ text
  pub plain : IsPlain (understood schema text)
  pub defined : table_defined_by text ≡ Ok table
  pub uncounted : lacks_sequence (created schema table) ≡ false

meta_is : MeansTable no_schema create_meta meta_table
unfolding understood everything
meta_is = record { is = refl; whole = refl; plain = (refl, refl); defined = refl; uncounted = refl }

object_is : MeansTable with_meta create_object object_table
unfolding understood everything
object_is = record {
  is = refl;
  whole = refl;
  plain = (refl, refl);
  defined = refl;
  uncounted =
      refl;
}

named_is : MeansTable with_object create_named named_table
unfolding understood everything
named_is = record {
  is = refl;
  whole = refl;
  plain = (refl, refl);
  defined = refl;
  uncounted =
      refl;
}

-- a table is made, which has no row, and the others stay
creates : (schema : Schema) (text : List ℕ) (table : Table) → MeansTable schema text table →
    (old new : State) → old.now.schema ≡ schema → (count : ℕ) → Executes text [] old new (Ok count)
    → Creates schema table old.now new.now
creates schema text table means old new has count h =
    let w = subst (λ t. Writes old new None CreateTable t [] count) means.whole
    (runs_as text [] old new schema has CreateTable means.is means.plain count h) in
    let all = went w.changed in
    let first = went all.1 in
    let made = first.1 in
    let both : Ok made.table ≡ Ok table = sym made.defined ∙ means.defined in
    let same : made.table ≡ table = cc in
    let is : first.0.schema ≡ created schema table = made.is ∙ ap (λ s. created s made.table) has
    ∙ ap (created schema) same in
    let plain : lacks_sequence first.0.schema ≡ false = ap lacks_sequence is ∙ means.uncounted in
    let now : new.now ≡ first.0 = ap (λ (p : Tally × Database). p.1) (same_value all.2)
    ∙ same_value (rw plain at first.2) in
    let back : (P : Database → Type 0) → P first.0 → P new.now = λ P p. subst P (sym now) p in
    record {
      schema_is = back (λ d. d.schema ≡ created schema table) is;
      empty = back (λ d. d.trees (next_tree schema) ≡ [])
          (subst (λ s. first.0.trees (next_tree s) ≡ []) has made.empty);
      others = back (λ d. AllByRecursion (λ t. d.trees t.tree ≡ old.now.trees t.tree)
          schema.tables)
          (subst (λ (s : Schema). AllByRecursion (λ t. first.0.trees t.tree ≡ old.now.trees t.tree)
          s.tables) has made.others);
    }

pub creates_meta : (old new : State) → old.now.schema ≡ no_schema → (count : ℕ) →
    Executes create_meta [] old new (Ok count) → Creates no_schema meta_table old.now new.now
creates_meta = creates no_schema create_meta meta_table meta_is

pub creates_object : (old new : State) → old.now.schema ≡ with_meta → (count : ℕ) →
    Executes create_object [] old new (Ok count) → Creates with_meta object_table old.now new.now
creates_object = creates with_meta create_object object_table object_is

pub creates_named : (old new : State) → old.now.schema ≡ with_object → (count : ℕ) →
    Executes create_named [] old new (Ok count) → Creates with_object named_table old.now new.now
creates_named = creates with_object create_named named_table named_is

has_named : HasTables with_named
unfolding everything
has_named = record {
  layout = record {
    meta = rules_of meta_table;
    object = rules_of object_table;
    named = rules_of named_table;
    others = [];
    indexes = with_named.indexes;
    views = [];
  };
  is =
      refl;
  apart = refl;
}

no_row_keyed : AreNumbered []
no_row_keyed = record { apart = tt; numbered = tt }

-- the three tables that are made have no row
pub bare : (a b c d : Database) → Creates no_schema meta_table a b → Creates with_meta object_table
    b c → Creates with_object named_table c d → IsBare d
unfolding everything
bare a b c d first second third =
    let meta_is : d.trees 0 ≡ [] = third.others.0 ∙ second.others.0 ∙ first.empty in
    let object_is : d.trees 2 ≡ [] = third.others.1.0 ∙ second.empty in
    let named_is : d.trees 4 ≡ [] = third.empty in
    record {
      tidy = record {
        has = subst HasTables (sym third.schema_is) has_named;
        meta = subst AreNumbered (sym meta_is) no_row_keyed;
        object = subst AreNumbered (sym object_is) no_row_keyed;
        named = subst AreNumbered (sym named_is) no_row_keyed;
      };
      meta = meta_is;
      object = object_is;
      named = named_is;
    }
