-- What rows that are stored in tables of a version say of it, and which faults are of rows.
use Rattle.std.proofs.Common.{◌≡◌, inl, inr, ℕ, ◌<◌, ◌^◌, List, [], ◌∷◌, codes, refl, sym, ap}
use Rattle.std.proofs.Common.{subst, ◌∙◌, arith}
use Rattle.std.specs.Prelude.{decimal, Contains}
use Rattle.std.proofs.lemmas.Fmt.{decimal_digit, decimal_injective}
use Rattle.std.proofs.lemmas.List.Elements.{Contains-push_cases}
use Rattle.sqlite.specs.declared.error.Error.{Error}
use Rattle.sqlite.specs.Effect.{Database}
use Rattle.rr_object.specs.Objects.{Obj}
use Rattle.rr_store.specs.Contents.{meta_row}
use Rattle.rr_store.specs.Maps.{AreStoredIn}
use Rattle.rr_store.specs.Tables.{HasTables}
use Rattle.rr_store.specs.Faults.{migrate_fault, no_tables, unread_fault}
use Rattle.rr_store.specs.Migrating.{IsOfOldRows, RefusesOldTables}
use Rattle.rr_store.specs.Opening.{IsOfRows, RefusesTables, SaysNoOther}
use Rattle.rr_store.specs.Versions.{form_of, version_number, version_text}
use Rattle.rr_store.specs.declared.store_fault.OpenFault.{OpenFault}
use Rattle.rr_store.specs.declared.store_fault.OpenFault.TheVariants as opened
use Rattle.rr_store.specs.declared.store_fault.MigrateFault.TheVariants as migrated
use Rattle.rr_store.specs.declared.store_fault.StoreFault.{StoreFault}
use Rattle.rr_store.specs.declared.store_fault.StoreFault.TheVariants as store
use Rattle.rr_store.specs.declared.version.Version.{Version}
use Rattle.rr_store.specs.declared.version.Version.TheVariants.{Current, Old}

-- rows that are stored in tables of a version say no other version
text_is : (version : Version) → version_text version ≡ decimal (version_number version)
text_is Old = sym (decimal_digit 1 (omega arith))
text_is Current = sym (decimal_digit 2 (omega arith))

is_low : (version : Version) → version_number version < 2 ^ 64
is_low Old = omega arith
is_low Current = omega arith

no_member : {X : Type 0} (x : X) → Contains [] x → ⊥
no_member x h = omega (arith, h.1)

one_value : (name a b : List ℕ) → Contains (meta_row name a ∷ []) (meta_row name b) → b ≡ a
one_value name a b h =
    elim (Contains-push_cases [] (meta_row name a) (meta_row name b) h) [
      | inl none ↦ absurd (no_member (meta_row name b) none)
      | inr same ↦ cc
    ]

pub stored_says_it : (version : Version) (source : List ℕ) (objects : List Obj) (db : Database) →
    AreStoredIn (form_of version) (version_text version) source objects db → SaysNoOther version db
stored_says_it version source objects db stored = record {
  only = λ n low says.
      let is = one_value (codes "version") (version_text version) (decimal n)
      (subst (λ rows. Contains rows (meta_row (codes "version") (decimal n))) stored.version
      says) in
      decimal_injective n (version_number version) (omega (arith, low)) (is_low version)
      (is ∙ text_is version);
}

-- they are stored in the three tables
pub stored_tables : (version : Version) (source : List ℕ) (objects : List Obj) (db : Database) →
    AreStoredIn (form_of version) (version_text version) source objects db → HasTables db.schema
stored_tables version source objects db stored = stored.rows.tidy.has

-- which fault of a migration is of the rows
pub unread_rows : (fault : OpenFault) → IsOfOldRows (unread_fault fault) → IsOfRows fault
unread_rows (opened.WrongVersion n) h = tt
unread_rows opened.BadRow h = tt
unread_rows (opened.Store error) h = h
unread_rows opened.Memory h = h

pub database_fault : (fault : StoreFault) → IsOfOldRows (migrate_fault fault) → ⊥
database_fault (store.Store error) h = h
database_fault store.Memory h = h

-- the database's error is reported as it is
pub unread_store : (fault : OpenFault) (error : Error) → unread_fault fault ≡ migrated.Store error
    → fault ≡ opened.Store error
unread_store (opened.WrongVersion n) error is = absurd (cc)
unread_store opened.BadRow error is = absurd (cc)
unread_store (opened.Store e) error is = let same : e ≡ error = cc in ap opened.Store same
unread_store opened.Memory error is = absurd (cc)

-- tables of version 1 that are not read are not migrated, and for the same reason
pub unread_refuses : (root source : List ℕ) (db : Database) (fault : OpenFault) →
    RefusesTables Old source db fault → RefusesOldTables root source db (unread_fault fault)
unread_refuses root source db (opened.WrongVersion n) h = record {
  wrong_version = λ number is. h.wrong_version number (let same : n ≡ number = cc in
      ap opened.WrongVersion same);
  bad_row = λ is. absurd (cc);
  no_other_said = λ is. absurd (cc);
  tables = λ rows. h.tables tt;
  untabled = λ none. absurd (none (h.tables tt));
  no_root = λ is. absurd (cc);
}
unread_refuses root source db opened.BadRow h = record {
  wrong_version = λ number is. absurd (cc);
  bad_row = λ is. h.bad_row refl;
  no_other_said = λ is. h.no_other_said refl;
  tables = λ rows. h.tables tt;
  untabled = λ none. absurd (none (h.tables tt));
  no_root = λ is. absurd (cc);
}
unread_refuses root source db (opened.Store error) h = record {
  wrong_version = λ number is. absurd (cc);
  bad_row = λ is. absurd (cc);
  no_other_said = λ is. absurd (cc);
  tables = λ none. absurd none;
  untabled = λ none. let told = h.untabled none in let same : error ≡ no_tables = cc in
      ap migrated.Store same;
  no_root = λ is. absurd (cc);
}
unread_refuses root source db opened.Memory h = record {
  wrong_version = λ number is. absurd (cc);
  bad_row = λ is. absurd (cc);
  no_other_said = λ is. absurd (cc);
  tables = λ none. absurd none;
  untabled = λ none. absurd (let told = h.untabled none in cc);
  no_root = λ is. absurd (cc);
}
