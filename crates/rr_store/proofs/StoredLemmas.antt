-- When the tables hold the rows of objects of one source, and when of none.
use Rattle.std.proofs.Common.{◌≡◌, ℕ, ◌<◌, ◌^◌, true, List, [], ◌∷◌, map, Option, Some, None, refl}
use Rattle.std.proofs.Common.{sym, ap, subst, ◌∙◌, arith, codes, IsPermutation}
use Rattle.std.specs.Prelude.{Contains, decimal, is_some, slice_index_or, unwrap_or}
use Rattle.std.specs.Fmt.{digits}
use Rattle.std.specs.List.{AllByRecursion, flat_map}
use Rattle.std.proofs.lemmas.Fmt.{decimal_injective}
use Rattle.std.proofs.lemmas.List.Sorted.{IsPermutation-map, IsPermutation-sym, IsPermutation-trans}
use Rattle.sqlite_value.specs.Order.{Row}
use Rattle.sqlite_trees.proofs.ListLemmas.{all-permutation, map-map, pull_back}
use Rattle.sqlite_trees.proofs.ListLemmas.{IsPermutation-flat_map}
use Rattle.sqlite.specs.Effect.{Database}
use Rattle.sqlite.specs.declared.error.Error.{Error}
use Rattle.rr_store.specs.Tables.{HasTables}
use Rattle.rr_text.specs.CanonicalText.{canonical}
use Rattle.rr_object.specs.Objects.{Obj}
use Rattle.rr_object.specs.Classes.{class_number}
use Rattle.rr_object.specs.Keys.{class_of}
use Rattle.rr_store.specs.Contents.{IsTidy, contents, meta_row, meta_rows, object_values}
use Rattle.rr_store.specs.Entries.{named_rows, object_row}
use Rattle.rr_store.specs.Maps.{AreApart, AreInOrder, AreStoredIn, HasVersion, IsObjectOf, KeyForm}
use Rattle.rr_store.specs.Maps.{entry_in}
use Rattle.rr_store.proofs.MapLists.{in_order_apart}
use Rattle.rr_store.specs.CheckParts.{AreRowsOfNone, HoldsObjects, IsVersionFault}
use Rattle.rr_store.specs.Faults.{no_tables}
use Rattle.rr_store.specs.Opening.{HoldNone, RefusesTables, SaysNoOther, SaysOther}
use Rattle.rr_store.specs.ReadingParts.{AreRead}
use Rattle.rr_store.specs.Versions.{SaysVersion, version_number, version_text}
use Rattle.rr_store.specs.declared.store_fault.OpenFault.{OpenFault}
use Rattle.rr_store.specs.declared.store_fault.OpenFault.TheVariants.{WrongVersion, BadRow, Store}
use Rattle.rr_store.specs.declared.store_fault.OpenFault.TheVariants.{Memory}
use Rattle.rr_store.specs.declared.version.Version.{Version}
use Rattle.rr_store.specs.declared.version.Version.TheVariants.{Current, Old}
use Rattle.rr_store.proofs.ObjectLemmas.{one_list}
use Rattle.rr_store.proofs.OrderLemmas.{apart_permutes}

some_of : (o : Option (List ℕ)) → is_some o ≡ true → o ≡ Some (unwrap_or o [])
some_of None h = absurd (cc)
some_of (Some key) h = refl

-- tables whose version is told amiss hold the rows of no objects
pub unversioned : (version : Version) (source : List ℕ) (db : Database) (fault : OpenFault) →
    IsVersionFault version (meta_rows (db.trees 0)) fault → fault ≡ BadRow →
    HoldNone version source db
unversioned version source db (WrongVersion n) told is = absurd (cc)
unversioned version source db BadRow told is = λ objects stored. told.bad stored.version
unversioned version source db (Store error) told is = absurd (cc)
unversioned version source db Memory told is = absurd (cc)

pub says_other : (version : Version) (db : Database) (fault : OpenFault) → IsVersionFault version
    (meta_rows (db.trees 0)) fault → (number : ℕ) → fault ≡ WrongVersion number →
    SaysOther version number db
says_other version db (WrongVersion n) told number is = let same : n ≡ number = cc in
    subst (λ m. SaysOther version m db) same told
says_other version db BadRow told number is = absurd (cc)
says_other version db (Store error) told number is = absurd (cc)
says_other version db Memory told number is = absurd (cc)

-- tables whose version is told amiss say no other
pub no_other_told : (version : Version) (db : Database) (fault : OpenFault) →
    IsVersionFault version (meta_rows (db.trees 0)) fault → fault ≡ BadRow → SaysNoOther version db
no_other_told version db (WrongVersion n) told is = absurd (cc)
no_other_told version db BadRow told is = record { only = told.no_other }
no_other_told version db (Store error) told is = absurd (cc)
no_other_told version db Memory told is = absurd (cc)

-- the database's own refusal says nothing of the tables, if they are there
pub database_refuses : (version : Version) (source : List ℕ) (db : Database) (error : Error) →
    (¬ HasTables db.schema → error ≡ no_tables) → RefusesTables version source db (Store error)
database_refuses version source db error untold = record {
  wrong_version = λ number is. absurd (cc);
  bad_row = λ is. absurd (cc);
  no_other_said = λ is. absurd (cc);
  tables = λ none. absurd none;
  untabled = λ none. ap Store (untold none);
}

-- tables whose version is told amiss are refused for that
pub version_refuses : (version : Version) (source : List ℕ) (db : Database) (fault : OpenFault) →
    HasTables db.schema → IsVersionFault version (meta_rows (db.trees 0)) fault →
    RefusesTables version source db fault
version_refuses version source db fault has told = record {
  wrong_version = says_other version db fault told;
  bad_row = unversioned version source db fault told;
  no_other_said = no_other_told version db fault told;
  tables = λ rows. has;
  untabled = λ none. absurd (none has);
}

version_decimal : (version : Version) → version_text version ≡ decimal (version_number version)
unfolding digits
version_decimal Old = refl
version_decimal Current = refl

number_low : (version : Version) → version_number version < 2 ^ 64
number_low Old = omega arith
number_low Current = omega arith

said_alone : (name text other : List ℕ) → Contains (meta_row name text ∷ []) (meta_row name other)
    → text ≡ other
said_alone name text other says =
    let first : says.0 ≡ 0 = omega (arith, says.1) in
    let same : meta_row name text ≡ meta_row name other =
    subst (λ (k : ℕ). slice_index_or (meta_row name text ∷ []) k (meta_row name other)
    ≡ meta_row name other) first says.2 in
    cc

-- and so do tables whose one row of `meta` says the version
pub only_said : (version : Version) (db : Database) → HasVersion (version_text version) db →
    SaysNoOther version db
only_said version db is = record {
  only = λ number low says.
      let alone = said_alone (codes "version") (version_text version) (decimal number)
      (subst (SaysVersion number) is says) in
      decimal_injective number (version_number version) (omega (arith, low)) (number_low version)
      (sym alone ∙ version_decimal version);
}

-- tables of this version whose rows are those of no objects are refused for that
pub rows_refuse : (version : Version) (source : List ℕ) (db : Database) (fault : OpenFault) →
    HasTables db.schema → HasVersion (version_text version) db →
    ((number : ℕ) → fault ≡ WrongVersion number → ⊥) → (fault ≡ BadRow → HoldNone version source db)
    → RefusesTables version source db fault
rows_refuse version source db fault has is no_other bad = record {
  wrong_version = λ number other. absurd (no_other number other);
  bad_row = bad;
  no_other_said = λ _. only_said version db is;
  tables = λ rows. has;
  untabled = λ none. absurd (none has);
}

module _ (form : KeyForm) (source : List ℕ) where
  pub read_rows : (rows : List Row) (objects : List Obj) → AreRead form source rows objects →
      rows ≡ map (λ o. object_row (entry_in form o)) objects
  read_rows [] [] read = refl
  read_rows [] (o ∷ os) read = absurd read
  read_rows (r ∷ rows) [] read = absurd read
  read_rows (r ∷ rows) (o ∷ os) read =
      (λ i.
      (read.0.1.is ∙ ap (λ k. object_values (class_number (class_of o.key)) (unwrap_or k [])
      (canonical o.paragraph)) (sym read.0.1.formed)) i ∷ read_rows rows os read.1 i)

  read_formed : (rows : List Row) (objects : List Obj) → AreRead form source rows objects →
      AllByRecursion (λ o. is_some (form o.key) ≡ true) objects
  read_formed [] [] read = tt
  read_formed [] (o ∷ os) read = absurd read
  read_formed (r ∷ rows) [] read = absurd read
  read_formed (r ∷ rows) (o ∷ os) read = (ap is_some read.0.1.formed, read_formed rows os read.1)

  pub read_objects : (rows : List Row) (objects : List Obj) → AreRead form source rows objects →
      AllByRecursion (IsObjectOf source) objects
  read_objects [] [] read = tt
  read_objects [] (o ∷ os) read = absurd read
  read_objects (r ∷ rows) [] read = absurd read
  read_objects (r ∷ rows) (o ∷ os) read = (read.0.0, read_objects rows os read.1)

  pub reads : (objects : List Obj) → AllByRecursion (IsObjectOf source) objects →
      AllByRecursion (λ o. is_some (form o.key) ≡ true) objects → AreRead form source
      (map (λ o. object_row (entry_in form o)) objects) objects
  reads [] all formed = tt
  reads (o ∷ os) all formed = (
    (
      all.0,
      record {
        key = unwrap_or (form o.key) [];
        formed = some_of (form o.key) formed.0;
        is = refl;
      },
    ),
    reads os all.1 formed.1,
  )

  -- the list whose rows stand in an order is a permutation of any list with these rows
  module _ (number : List ℕ) (rows : List Row) (objects : List Obj) (db : Database)
      (stored : AreStoredIn form number source objects db)
      (same : IsPermutation (contents (db.trees 2)) rows) where
    relisted : (listed : List Obj) × IsPermutation objects listed
        × (rows ≡ map (λ o. object_row (entry_in form o)) listed)
    relisted =
        let all = IsPermutation-trans _ _ _ stored.rows.objects same in
        pull_back (λ o. object_row (entry_in form o)) _ rows all objects
        (map-map object_row (entry_in form) objects)

    relisted_read : AreRead form source rows relisted.0
    unfolding relisted
    relisted_read = subst (λ l. AreRead form source l relisted.0) (sym relisted.2)
        (reads relisted.0 (all-permutation (IsObjectOf source) objects relisted.0 relisted.1
        stored.of_source) (all-permutation (λ o. is_some (form o.key) ≡ true) objects
        relisted.0 relisted.1 stored.formed))

  -- where rows are those of no objects, the tables hold the rows of none
  pub none_read : (number : List ℕ) (db : Database) → AreRowsOfNone form source
      (contents (db.trees 2)) → (objects : List Obj) → AreStoredIn form number source objects db → ⊥
  none_read number db held objects stored =
      held.none (relisted number held.rows objects db stored held.same).0
      (relisted_read number held.rows objects db stored held.same)

  -- where two of the objects that were read have the same key, too
  pub none_apart : (number : List ℕ) (read : List Obj) (db : Database) → HoldsObjects form source
      read (contents (db.trees 2)) → (AreApart read → ⊥) → (objects : List Obj) →
      AreStoredIn form number source objects db → ⊥
  unfolding relisted
  none_apart number read db held tied objects stored =
      let l = relisted number held.rows objects db stored held.same in
      let one = one_list form source held.rows read l.0 held.read
      (relisted_read number held.rows objects db stored held.same) in
      tied (subst AreApart (sym one) ((apart_permutes objects l.0 l.1).1 stored.apart))

  -- and where the names are not those of the objects that were read
  pub none_named : (number : List ℕ) (read : List Obj) (db : Database) → HoldsObjects form source
      read (contents (db.trees 2)) →
      (IsPermutation (flat_map named_rows (map (entry_in form) read)) (contents (db.trees 4)) → ⊥)
      → (objects : List Obj) → AreStoredIn form number source objects db → ⊥
  unfolding relisted
  none_named number read db held other objects stored =
      let l = relisted number held.rows objects db stored held.same in
      let one = one_list form source held.rows read l.0 held.read
      (relisted_read number held.rows objects db stored held.same) in
      let same = subst (IsPermutation objects) (sym one) l.1 in
      other
      (IsPermutation-trans _ _ _ (IsPermutation-flat_map named_rows _ _
      (IsPermutation-map (entry_in form) _ _ (IsPermutation-sym _ _ same))) stored.rows.named)

  -- what holds of objects holds of them in another order
  pub reordered : (objects ordered : List Obj) (held : List Row) → HoldsObjects form source objects
      held → IsPermutation objects ordered → HoldsObjects form source ordered held
  reordered objects ordered held h same = record {
    rows = map (λ o. object_row (entry_in form o)) ordered;
    same = IsPermutation-trans _ _ _ (subst (IsPermutation held) (read_rows h.rows objects h.read)
        h.same) (IsPermutation-map (λ o. object_row (entry_in form o)) objects ordered same);
    read = reads ordered (all-permutation (IsObjectOf source) objects ordered same
        (read_objects h.rows objects h.read)) (all-permutation (λ o. is_some (form o.key) ≡ true)
        objects ordered same (read_formed h.rows objects h.read));
  }

  -- the tables hold the rows of the objects that were read of them, in whatever order these were
  -- read
  pub stored : (number : List ℕ) (objects ordered : List Obj) (db : Database) → IsTidy db →
      HasVersion number db → HoldsObjects form source objects (contents (db.trees 2))
      → IsPermutation (flat_map named_rows (map (entry_in form) objects)) (contents (db.trees 4)) →
      IsPermutation objects ordered → AreInOrder ordered → AreStoredIn form number source
      ordered db
  stored number objects ordered db tidy version held named same order =
      let now = reordered objects ordered (contents (db.trees 2)) held same in
      record {
        rows = record {
          tidy = tidy;
          objects = subst (λ l. IsPermutation l (contents (db.trees 2)))
              (read_rows now.rows ordered now.read
              ∙ sym (map-map object_row (entry_in form) ordered)) (IsPermutation-sym _ _ now.same);
          named = IsPermutation-trans _ _ _
              (IsPermutation-sym _ _ (IsPermutation-flat_map named_rows _ _
              (IsPermutation-map (entry_in form) objects ordered same))) named;
        };
        version = version;
        formed = read_formed now.rows ordered now.read;
        of_source = read_objects now.rows ordered now.read;
        apart = in_order_apart ordered order;
      }
