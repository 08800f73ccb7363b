-- What rows that may be found say of the registry that is opened, made or migrated.
use Rattle.std.proofs.Common.{codes, ◌≡◌, inl, inr, ℕ, Bool, true, false, List, [], ◌∷◌, map, refl}
use Rattle.std.proofs.Common.{sym, ap, subst, ◌∙◌, arith}
use Rattle.std.specs.FinMap.{values}
use Rattle.std.specs.List.{flat_map}
use Rattle.std.specs.Prelude.{IsPermutation, if◌then◌else◌}
use Rattle.sqlite_trees.specs.Tree.{Trees}
use Rattle.sqlite.specs.Effect.{Database}
use Rattle.rr_object.specs.Objects.{Obj}
use Rattle.rr_object.specs.OldKeys.{old_key_bytes}
use Rattle.rr_auth.specs.Registries.{Reg}
use Rattle.rr_store.specs.Contents.{AreNumbered, IsTidy, contents, meta_row, meta_rows}
use Rattle.rr_store.specs.Entries.{AreRowsOf, StoredEntry, TreesOf, entry_of, named_rows}
use Rattle.rr_store.specs.Entries.{object_row}
use Rattle.rr_store.specs.Made.{IsVacant}
use Rattle.rr_store.specs.Maps.{AreOldStored, HasRows, HasVersion, current_version, entry_in}
use Rattle.rr_store.specs.Maps.{old_version}
use Rattle.rr_store.specs.Tables.{HasTables, meta_tree, named_tree, object_tree}
use Rattle.rr_store.proofs.ListForms.{stored_alike}
use Rattle.rr_store.proofs.MapLists.{one_map}
use Rattle.rr_store.proofs.OtherLemmas.{no_tables}
use Rattle.rr_desk.specs.Events.{IsMadeBy, Making}
use Rattle.rr_desk.specs.HistoryLaws.{BareTreesAreOfNone, RowsTellTheRegistry, TreesTellTheRegistry}
use Rattle.rr_desk.specs.Histories.{AreOf, AreOfOne, HaveFound, ListsTables}
use Rattle.rr_desk.specs.Migrating.{IsGrown}
use Rattle.rr_desk.specs.Modes.{Found, MayBeFound, IsGrownOf, IsGrownOfOne, IsOneOf, may_be_none}
use Rattle.rr_desk.specs.Modes.{no_registry, old_tables, one_grown, one_made, that_registry}
use Rattle.rr_desk.specs.Modes.{with_grown, with_made}
use Rattle.rr_desk.specs.Settings.{SettingsParts}

pub rows_tell : RowsTellTheRegistry
rows_tell r s db of_r of_s = one_map r s db of_r of_s

-- a version is told by the trees alone
version_there : (version : List ℕ) (db other : Database) → db.trees ≡ other.trees →
    HasVersion version other → HasVersion version db
version_there version db other same has = ap (λ (t : Trees). meta_rows (t meta_tree)) same ∙ has

-- and so are rows, under a schema with the tables
tidy_there : (db other : Database) → db.trees ≡ other.trees → HasTables db.schema → IsTidy other →
    IsTidy db
tidy_there db other same has tidy = record {
  has = has;
  meta = subst (λ (t : Trees). AreNumbered (t meta_tree)) (sym same) tidy.meta;
  object = subst (λ (t : Trees). AreNumbered (t object_tree)) (sym same) tidy.object;
  named = subst (λ (t : Trees). AreNumbered (t named_tree)) (sym same) tidy.named;
}

entries_there : (es : List StoredEntry) (db other : Database) → db.trees ≡ other.trees →
    HasTables db.schema → AreRowsOf es other → AreRowsOf es db
entries_there es db other same has rows = record {
  tidy = tidy_there db other same has rows.tidy;
  objects = subst (λ (t : Trees). IsPermutation (map object_row es) (contents (t object_tree)))
      (sym same) rows.objects;
  named = subst (λ (t : Trees). IsPermutation (flat_map named_rows es) (contents (t named_tree)))
      (sym same) rows.named;
}

rows_there : (r : Reg) (db other : Database) → db.trees ≡ other.trees → HasTables db.schema →
    HasRows r other → HasRows r db
rows_there r db other same has held = record {
  keyed = held.keyed;
  rows = entries_there (map entry_of (values r)) db other same has held.rows;
  version = version_there current_version db other same held.version;
}

old_there : (source : List ℕ) (objects : List Obj) (db other : Database) → db.trees ≡ other.trees →
    HasTables db.schema → AreOldStored source objects other → AreOldStored source objects db
old_there source objects db other same has held = record {
  rows = entries_there (map (entry_in old_key_bytes) objects) db other same has held.rows;
  version = version_there old_version db other same held.version;
  formed = held.formed;
  of_source = held.of_source;
  apart = held.apart;
}

pub trees_tell : TreesTellTheRegistry
trees_tell r opening db held rows = one_map opening r db rows
    (rows_there r db held.0 held.2 rows.rows.tidy.has held.1)

no_row : {A : Type 0} (a : A) (rest : List A) → ◌≡◌ {A = List A} [] (a ∷ rest) → ⊥
no_row a rest same = absurd (cc)

-- a tree without a row says no version
pub unsaid : (version : List ℕ) (trees : Trees) (db : Database) → trees meta_tree ≡ [] →
    trees ≡ db.trees → HasVersion version db → ⊥
unsaid version trees db bare same has =
    no_row (meta_row (codes "version") version) []
    (ap meta_rows (sym bare) ∙ ap (λ (t : Trees). meta_rows (t meta_tree)) same ∙ has)

pub bare_none : BareTreesAreOfNone
bare_none trees bare = record {
  none = λ r held. unsaid current_version trees held.0 bare held.2 held.1.version;
  no_old = λ source objects held. unsaid old_version trees held.0 bare held.2 held.1.version;
}

-- the two versions are not one
apart_digits : ◌≡◌ {A = ℕ} 50 49 → ⊥
apart_digits same = omega (arith, same)

apart_versions : meta_row (codes "version") current_version ∷ [] ≡ meta_row (codes "version")
    old_version ∷ [] → ⊥
apart_versions same = let digits : ◌≡◌ {A = ℕ} 50 49 = cc in apart_digits digits

not_both : (db first second : Database) → first.trees ≡ db.trees → second.trees ≡ db.trees →
    HasVersion current_version first → HasVersion old_version second → ⊥
not_both db first second one two now old =
    apart_versions (sym now ∙ (ap (λ (t : Trees). meta_rows (t meta_tree)) (one ∙ sym two) ∙ old))

-- a registry that is opened is the one that may be found
opened_of : (found : Found) (r : Reg) (db : Database) → HasRows r db → HaveFound found db.trees →
    MayBeFound found r
opened_of found r db rows held = subst (MayBeFound found) (sym (trees_tell held.0 r db held.2 rows))
    held.1

opened_as : (found : Found) (r : Reg) (db : Database) → HasRows r db → AreOf found db.trees →
    MayBeFound found r
opened_as no_registry r db rows held = absurd (held.none r (db, rows, refl))
opened_as (that_registry s) r db rows held = opened_of (that_registry s) r db rows held
opened_as (one_made how) r db rows held = opened_of (one_made how) r db rows held
opened_as (old_tables objects) r db rows held =
    absurd (not_both db db held.1.0 refl (sym held.1.2) rows.version held.1.1.version)
opened_as (one_grown by objects) r db rows held = opened_of (one_grown by objects) r db rows held

pub opened_one : (found : List Found) (r : Reg) (db : Database) → HasRows r db →
    AreOfOne found db.trees → IsOneOf found r
opened_one [] r db rows held = absurd held
opened_one (one ∷ others) r db rows (inl held) = inl (opened_as one r db rows held)
opened_one (one ∷ others) r db rows (inr held) = inr (opened_one others r db rows held)

-- where there is room for a new store, no version is said
no_room : (version : List ℕ) (db other : Database) → ListsTables db → IsVacant db →
    db.trees ≡ other.trees → HasVersion version other → ⊥
no_room version db other lists (inl blank) same has =
    no_tables db.schema (lists version (version_there version db other same has)) blank
no_room version db other lists (inr bare) same has = unsaid version db.trees other bare.meta same
    has

full_room : {A : Type 0} (found : Found) (db : Database) → ListsTables db → IsVacant db →
    HaveFound found db.trees → A
full_room found db lists vacant held =
    absurd (no_room current_version db held.2.0 lists vacant held.2.2 held.2.1.version)

-- so there may be no registry
pub vacant_none : (found : List Found) (db : Database) → ListsTables db → IsVacant db →
    AreOfOne found db.trees → may_be_none found ≡ true
vacant_none [] db lists vacant held = absurd held
vacant_none (no_registry ∷ others) db lists vacant held = refl
vacant_none (that_registry r ∷ others) db lists vacant (inl held) = full_room (that_registry r) db
    lists vacant held
vacant_none (that_registry r ∷ others) db lists vacant (inr held) = vacant_none others db lists
    vacant held
vacant_none (one_made how ∷ others) db lists vacant (inl held) = full_room (one_made how) db lists
    vacant held
vacant_none (one_made how ∷ others) db lists vacant (inr held) = vacant_none others db lists vacant
    held
vacant_none (old_tables objects ∷ others) db lists vacant (inl held) =
    absurd (no_room old_version db held.1.0 lists vacant held.1.2 held.1.1.version)
vacant_none (old_tables objects ∷ others) db lists vacant (inr held) = vacant_none others db lists
    vacant held
vacant_none (one_grown by objects ∷ others) db lists vacant (inl held) =
    full_room (one_grown by objects) db lists vacant held
vacant_none (one_grown by objects ∷ others) db lists vacant (inr held) = vacant_none others db
    lists vacant held

-- what was found before may be found once one was to be made
pub still_with_made : (how : Making) (found : List Found) (trees : Trees) → AreOfOne found trees →
    AreOfOne (with_made how found) trees
still_with_made how found trees held = go (may_be_none found)
  where
    go : (b : Bool) → AreOfOne (if b then one_made how ∷ found else found) trees
    go true = inr held
    go false = held

-- and where there may be none, that one
pub made_there : (how : Making) (found : List Found) (r : Reg) (trees : Trees) → may_be_none found
    ≡ true → IsMadeBy how r → TreesOf (HasRows r) trees → AreOfOne (with_made how found) trees
made_there how found r trees none is held =
    subst (λ (b : Bool). AreOfOne (if b then one_made how ∷ found else found) trees) (sym none)
    (inl (r, is, held))

-- the objects of tables of version 1 are those that may be found, in some order
grown_of : (by : SettingsParts) (objects : List Obj) (r : Reg) (db : Database) → IsGrown by db r →
    AreOf (old_tables objects) db.trees → IsGrownOf by objects r
grown_of by objects r db grown held = record {
  ordered = grown.objects;
  same = stored_alike old_key_bytes old_version held.0 by.source objects grown.objects db
      (old_there held.0 objects db held.1.0 held.1.2 grown.before.rows.tidy.has held.1.1)
      grown.before;
  sound = grown.sound;
  grown = grown.grown;
}

not_old : {A : Type 0} (by : SettingsParts) (found : Found) (r : Reg) (db : Database) →
    IsGrown by db r → HaveFound found db.trees → A
not_old by found r db grown held =
    absurd (not_both db held.2.0 db (sym held.2.2) refl held.2.1.version grown.before.version)

-- so what they are migrated to is what the mode says
pub grown_one : (by : SettingsParts) (found : List Found) (r : Reg) (db : Database) →
    IsGrown by db r → AreOfOne found db.trees → IsGrownOfOne by found r
grown_one by [] r db grown held = absurd held
grown_one by (no_registry ∷ others) r db grown (inl held) =
    absurd (held.no_old by.source grown.objects (db, grown.before, refl))
grown_one by (no_registry ∷ others) r db grown (inr held) = grown_one by others r db grown held
grown_one by (that_registry s ∷ others) r db grown (inl held) = not_old by (that_registry s) r db
    grown held
grown_one by (that_registry s ∷ others) r db grown (inr held) = grown_one by others r db grown held
grown_one by (one_made how ∷ others) r db grown (inl held) = not_old by (one_made how) r db grown
    held
grown_one by (one_made how ∷ others) r db grown (inr held) = grown_one by others r db grown held
grown_one by (old_tables objects ∷ others) r db grown (inl held) =
    inl (grown_of by objects r db grown held)
grown_one by (old_tables objects ∷ others) r db grown (inr held) =
    inr (grown_one by others r db grown held)
grown_one by (one_grown other objects ∷ others) r db grown (inl held) =
    not_old by (one_grown other objects) r db grown held
grown_one by (one_grown other objects ∷ others) r db grown (inr held) = grown_one by others r db
    grown held

-- what was found before may be found once tables were to be migrated
pub still_with_grown : (by : SettingsParts) (found : List Found) (trees : Trees) →
    AreOfOne found trees → AreOfOne (with_grown by found) trees
still_with_grown by [] trees held = held
still_with_grown by (no_registry ∷ others) trees (inl held) = inl held
still_with_grown by (no_registry ∷ others) trees (inr held) =
    inr (still_with_grown by others trees held)
still_with_grown by (that_registry s ∷ others) trees (inl held) = inl held
still_with_grown by (that_registry s ∷ others) trees (inr held) =
    inr (still_with_grown by others trees held)
still_with_grown by (one_made how ∷ others) trees (inl held) = inl held
still_with_grown by (one_made how ∷ others) trees (inr held) =
    inr (still_with_grown by others trees held)
still_with_grown by (old_tables objects ∷ others) trees (inl held) = inl held
still_with_grown by (old_tables objects ∷ others) trees (inr held) =
    inr (inr (still_with_grown by others trees held))
still_with_grown by (one_grown other objects ∷ others) trees (inl held) = inl held
still_with_grown by (one_grown other objects ∷ others) trees (inr held) =
    inr (still_with_grown by others trees held)

-- and what they are migrated to
pub grown_there : (by : SettingsParts) (found : List Found) (r : Reg) (trees : Trees) →
    IsGrownOfOne by found r → TreesOf (HasRows r) trees → AreOfOne (with_grown by found) trees
grown_there by [] r trees is held = absurd is
grown_there by (no_registry ∷ others) r trees is held = inr (grown_there by others r trees is held)
grown_there by (that_registry s ∷ others) r trees is held =
    inr (grown_there by others r trees is held)
grown_there by (one_made how ∷ others) r trees is held = inr (grown_there by others r trees is held)
grown_there by (old_tables objects ∷ others) r trees (inl is) held = inr (inl (r, is, held))
grown_there by (old_tables objects ∷ others) r trees (inr is) held =
    inr (inr (grown_there by others r trees is held))
grown_there by (one_grown other objects ∷ others) r trees is held =
    inr (grown_there by others r trees is held)
