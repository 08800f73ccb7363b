-- What migration makes of tables of version 1, and why there is none.
use Rattle.std.proofs.Common.{◌≡◌, ◌⊎◌, inl, inr, ℕ, Bool, false, List, [], ◌∷◌, ◌++◌, Result, Ok}
use Rattle.std.proofs.Common.{Err, IfOk, OnOk, IsTrue, refl, sym, ap, subst, ◌∙◌, arith}
use Rattle.std.proofs.Common.{IsPermutation}
use Rattle.std.proofs.lemmas.Bool.{or_from, or_parts}
use Rattle.std.proofs.lemmas.List.Sorted.{IsPermutation-append_left, IsPermutation-map}
use Rattle.std.specs.List.{AllByRecursion, list_any}
use Rattle.std.specs.FinMap.{empty, values}
use Rattle.sqlite_trees.proofs.ListLemmas.{all-append, all-permutation, all_weaker}
use Rattle.sqlite.specs.Effect.{Database}
use Rattle.sqlite.specs.declared.error.Error.{Error}
use Rattle.sqlite.specs.State.{HasCleanDisk, IsUnchanged, Survives}
use Rattle.sqlite.proofs.StateLemmas.{survives_then, survives_weaker}
use Rattle.rr_text.specs.Fields.{Field}
use Rattle.rr_object.specs.declared.object_fault.ObjectFault.{ObjectFault}
use Rattle.rr_object.specs.Objects.{Obj}
use Rattle.rr_object.specs.OldKeys.{old_key_bytes}
use Rattle.rr_object.specs.Readings.{ReadsAs}
use Rattle.rr_auth.specs.Registries.{Reg}
use Rattle.rr_auth.specs.Sources.{IsRegistryOf}
use Rattle.rr_auth.specs.Elements.{IsIn}
use Rattle.rr_auth.proofs.Members.{found_in}
use Rattle.rr_registry.specs.declared.load.LoadFault.{LoadFault}
use Rattle.rr_registry.specs.declared.load.LoadFault.TheVariants.{Duplicate, Overlap, Unnamed}
use Rattle.rr_registry.specs.declared.load.LoadFault.TheVariants.{Memory}
use Rattle.rr_registry.specs.Loading.{IsFaultOf}
use Rattle.rr_store.specs.Contents.{IsTidy}
use Rattle.rr_store.specs.Entries.{TreesOf, entry_of}
use Rattle.rr_store.specs.Maps.{AreOldStored, HasRows, IsKeyed, IsObject, IsObjectOf, old_version}
use Rattle.rr_store.proofs.ListForms.{stored_alike}
use Rattle.rr_store.proofs.MapLists.{listed_rows, of_any, permuted_map}
use Rattle.rr_store.proofs.MapRows.{rows_permuted}
use Rattle.rr_store.specs.declared.store_fault.MigrateFault.{MigrateFault}
use Rattle.rr_store.specs.declared.store_fault.MigrateFault.TheVariants as migrate
use Rattle.sqlite_trees.specs.declared.store.Store.{Ghosts}
use Rattle.sqlite.specs.Held.{Held, state}
use Rattle.rr_store.specs.Calls.{WhereOpen, database}
use Rattle.rr_store.specs.Faults.{no_tables, unread_fault}
use Rattle.rr_store.specs.Opening.{RefusesTables}
use Rattle.rr_store.specs.declared.version.Version.TheVariants.{Old}
use Rattle.rr_store.specs.declared.store_fault.OpenFault.{OpenFault}
use Rattle.rr_store.specs.declared.store_fault.OpenFault.TheVariants as opened
use Rattle.rr_desk.specs.Opened.{GivesBack}
use Rattle.rr_desk.specs.Rows.{CommitsNothing}
use Rattle.rr_desk.specs.Stocks.{StockParts}
use Rattle.rr_store.specs.Migrating.{HasNoRoot, IsMigrated, has_mntner, is_mntner_of, upper_block}
use Rattle.rr_store.proofs.CauseLemmas.{caused_then}
use Rattle.rr_desk.specs.Migrating.{AreRegistry, CommitsMigrated, FailsMigrating}
use Rattle.rr_desk.specs.Migrating.{FailsToMigrateTables, HasNoOldRegistry, HasUpper, IsGrown}
use Rattle.rr_desk.specs.Migrating.{IsMigratedBy, IsMigratedTo, IsRootless, MigratesTables}
use Rattle.rr_desk.specs.Migrating.{RefusesOldRegistry}
use Rattle.rr_desk.specs.MigratingParts.{HasLoadFault, HasUpperFault, IsGrowthFault, told_as}
use Rattle.rr_desk.specs.Settings.{IsSettings, SettingsParts}
use Rattle.rr_desk.proofs.Grown.{rootless, the_upper_object}
use Rattle.rr_desk.proofs.ListRows.{gathered_is}
use Rattle.rr_desk.proofs.TakenApart.{taken_apart}
use Rattle.rr_desk.proofs.SoundLists.{sound_list}
use Rattle.rr_desk.proofs.Sources.{IsReadIn, block_read, taken_read}

-- a fault of a list is told as that memory ran out, or as the fault that it stands for
pub told_so : (os : List Obj) (fault : LoadFault) (told : MigrateFault) → IsFaultOf os fault →
    (told_as fault told ≡ migrate.Memory) ⊎ ((told_as fault told ≡ told) × HasLoadFault os)
told_so os fault told (inl memory) = inl (ap (λ f. told_as f told) memory)
told_so os (Duplicate n) told (inr is) = inr (refl, record { fault = Duplicate n; is_fault = is })
told_so os (Overlap n) told (inr is) = inr (refl, record { fault = Overlap n; is_fault = is })
told_so os (Unnamed n) told (inr is) = inr (refl, record { fault = Unnamed n; is_fault = is })
told_so os Memory told (inr is) = inl refl

pub upper_fault : (s : SettingsParts) (os : List Obj) (upper : Obj) (fault : LoadFault) →
    ReadsAs s.source (upper_block s.root s.source) upper
    → (told_as fault migrate.NoRoot ≡ migrate.Memory)
    ⊎ ((told_as fault migrate.NoRoot ≡ migrate.NoRoot) × HasLoadFault (os ++ upper ∷ []))
    → (told_as fault migrate.NoRoot ≡ migrate.Memory)
    ⊎ ((told_as fault migrate.NoRoot ≡ migrate.NoRoot) × HasUpperFault s os)
upper_fault s os upper fault read (inl memory) = inl memory
upper_fault s os upper fault read (inr bad) =
    inr (bad.0, record { upper = upper; read = read; fault = bad.1 })

pub unsound_growth : (s : SettingsParts) (os : List Obj) (fault : MigrateFault) →
    (fault ≡ migrate.Memory) ⊎ ((fault ≡ migrate.BadRow) × HasLoadFault os) →
    IsGrowthFault s os fault
unsound_growth s os fault (inl memory) = subst (IsGrowthFault s os) (sym memory) tt
unsound_growth s os fault (inr bad) = subst (IsGrowthFault s os) (sym bad.0) bad.1

pub unowned_growth : (s : SettingsParts) (os : List Obj) (fault : MigrateFault) → AreRegistry os →
    (fault ≡ migrate.Memory) ⊎ ((fault ≡ migrate.NoRoot) × HasUpperFault s os) →
    IsGrowthFault s os fault
unowned_growth s os fault sound (inl memory) = subst (IsGrowthFault s os) (sym memory) tt
unowned_growth s os fault sound (inr bad) = subst (IsGrowthFault s os) (sym bad.0) (sound, bad.1)

-- what is known of both parts of an answer
pub each_shown : {X E : Type 0} (r : Result X E) (P : X → Type 0) (Q : Type 0) (R : X → Type 0) →
    IfOk r P → OnOk r Q → ((x : X) → Q → P x → R x) → IfOk r R
each_shown (Ok x) P Q R h k f = f x k h
each_shown (Err e) P Q R h k f = tt

pub always_ok : {X E : Type 0} (r : Result X E) (Q : Type 0) → Q → OnOk r Q
always_ok (Ok x) Q q = q
always_ok (Err e) Q q = tt

-- objects of a source that are no registry are not those of one
in_all : {A : Type 0} (P : A → Type 0) (x : A) (xs : List A) → AllByRecursion P xs → IsIn x xs → P x
in_all P x [] all is = absurd is
in_all P x (y ∷ ys) all (inl same) = subst P (sym same) all.0
in_all P x (y ∷ ys) all (inr is) = in_all P x ys all.1 is

pub no_old_registry : (source : List ℕ) (os : List Obj) (db : Database) → AreOldStored source os db
    → HasLoadFault os → HasNoOldRegistry source db
no_old_registry source os db stored bad r of rows =
    let keyed : IsKeyed r = record {
      keyed = of.sound.keyed;
      formed = of.sound.formed;
      read = λ k o found. of_any source o (in_all (IsObjectOf source) o (values r) rows.of_source
          (found_in r k o found));
    } in
    let same = permuted_map r os keyed (all_weaker (IsObjectOf source) IsObject (of_any source) os
    stored.of_source) stored.apart (stored_alike old_key_bytes old_version source source os
    (values r) db stored rows) in
    let none = sound_list os r stored.apart of.sound (gathered_is empty os ∙ same) in
    let is = bad.is_fault in
    absurd (cc)

-- a list in another order has no other mntners
module _ {A : Type 0} (p : A → Bool) where
  none_of : (xs : List A) → list_any p xs ≡ false → AllByRecursion (λ x. p x ≡ false) xs
  none_of [] none = tt
  none_of (x ∷ xs) none = let parts = or_parts (p x) (list_any p xs) none in
      (parts.0, none_of xs parts.1)

  not_any : (xs : List A) → AllByRecursion (λ x. p x ≡ false) xs → list_any p xs ≡ false
  not_any [] all = refl
  not_any (x ∷ xs) all = or_from _ _ all.0 (not_any xs all.1)

missing_alike : (root : List ℕ) (xs ys : List Obj) → IsPermutation xs ys → has_mntner root xs
    ≡ false → has_mntner root ys ≡ false
missing_alike root xs ys same missing =
    let p : Obj → Bool = λ o. is_mntner_of root o.key in
    not_any p ys (all-permutation (λ o. p o ≡ false) xs ys same (none_of p xs missing))

pub is_rootless : (s : SettingsParts) (db : Database) (r : Reg) → IsGrown s db r →
    HasNoRoot s.root s.source db → IsRootless s db
is_rootless s db r grown none = record {
  objects = grown.objects;
  before = grown.before;
  sound = grown.sound;
  missing = missing_alike s.root none.objects grown.objects (stored_alike old_key_bytes old_version
      s.source s.source none.objects grown.objects db none.before grown.before) none.missing;
}

-- where the root is no maintainer of a registry of version 1, the block is none's
pub growth_rootless : (s : SettingsParts) (os : List Obj) (db : Database) → IsSettings s →
    AreOldStored s.source os db → AreRegistry os × HasUpperFault s os → IsRootless s db
growth_rootless s os db is stored h = record {
  objects = os;
  before = stored;
  sound = h.0;
  missing = rootless s is os h.0.registry h.0.taken h.0.sound stored.formed h.1.upper h.1.read
      h.1.fault;
}

-- the registry with the block is of the settings' source
pub grown_of_source : (s : SettingsParts) (os : List Obj) (r : Reg) → IsSettings s →
    AllByRecursion (IsObjectOf s.source) os → HasUpper s os r → IsRegistryOf s.source r
grown_of_source s os r is all grown =
    taken_read s.source (os ++ grown.upper ∷ []) r grown.taken grown.sound
    (all-append (IsReadIn s.source) os (grown.upper ∷ [])
    (all_weaker (IsObjectOf s.source) (IsReadIn s.source) (λ o of. of.read) os all)
    (block_read s grown.upper is (the_upper_object s grown.upper is grown.read), tt))

-- the registry that was made before has the rows that migration makes
same_block : (source : List ℕ) (fields : List Field) (a b : Obj) → ReadsAs source fields a →
    ReadsAs source fields b → a ≡ b
same_block source fields a b first second =
    let both : ◌≡◌ {A = Result Obj ObjectFault} (Ok a) (Ok b) = sym first ∙ second in
    cc

pub migrated_rows : (s : SettingsParts) (r : Reg) (old new : Database) → IsGrown s old r →
    IsMigrated s.root s.source old new → HasRows r new
migrated_rows s r old new grown made =
    let os = grown.objects in
    let upper = grown.grown.upper in
    let taken = grown.grown.taken in
    let same : made.upper ≡ upper = same_block s.source (upper_block s.root s.source) made.upper
    upper made.read grown.grown.read in
    let alike : IsPermutation (made.objects ++ made.upper ∷ []) (os ++ upper ∷ []) =
    subst (λ b. IsPermutation (made.objects ++ made.upper ∷ []) (os ++ b ∷ [])) same
    (IsPermutation-append_left (made.upper ∷ []) made.objects os
    (stored_alike old_key_bytes old_version s.source s.source made.objects os old made.before
    grown.before)) in
    let all = all_weaker (IsObjectOf s.source) IsObject (of_any s.source) (os ++ upper ∷ [])
    (all-permutation (IsObjectOf s.source) _ _ alike made.after.of_source) in
    subst (λ m. HasRows m new) (sym (taken.whole ∙ gathered_is empty (os ++ upper ∷ [])))
    (listed_rows (os ++ upper ∷ []) new all (taken_apart (os ++ upper ∷ []) r taken)
    (rows_permuted _ _ new (IsPermutation-map entry_of _ _ alike) made.after.rows)
    made.after.version)

-- and so a stop leaves these
pub grown_commits : {S : Type 0} (g : Ghosts S) (s : SettingsParts) (r : Reg) (conn new : Held S) →
    (HasCleanDisk (state g conn) → IsGrown s (database g conn) r)
    → Survives (state g conn) (state g new)
    (WhereOpen g conn (TreesOf (IsMigratedBy s (database g conn)))) → Survives (state g conn)
    (state g new) (CommitsMigrated g s conn)
grown_commits g s r conn new grown crash =
    survives_weaker (state g conn) (state g new)
    (WhereOpen g conn (TreesOf (IsMigratedBy s (database g conn)))) (CommitsMigrated g s conn)
    (λ clean trees made.
    let is = grown (omega (arith, clean, crash.clean)) in (
      made.0,
      (
        made.1.0,
        record {
          migrated = made.1.1;
          registry = r;
          grown = is;
          rows =
              migrated_rows s r (database g conn) made.1.0 is made.1.1;
        },
        made.1.2,
      ),
    )) crash

-- why tables of version 1 are not read is why they are not migrated
module _ (s : SettingsParts) (db : Database) where
  pub refused_old : (fault : OpenFault) → RefusesTables Old s.source db fault →
      RefusesOldRegistry s db (unread_fault fault)
  refused_old (opened.WrongVersion n) h = record {
    wrong_version = λ number is. h.wrong_version number (let same : n ≡ number = cc in
        ap opened.WrongVersion same);
    bad_row = λ is. absurd (cc);
    no_other_said = λ is. absurd (cc);
    tables = λ of. h.tables tt;
    untabled = λ none. absurd (none (h.tables tt));
    no_root = λ is. absurd (cc);
  }
  refused_old opened.BadRow h = record {
    wrong_version = λ number is. absurd (cc);
    bad_row = λ is r of rows. h.bad_row refl (values r) rows;
    no_other_said = λ is. h.no_other_said refl;
    tables = λ of. h.tables tt;
    untabled = λ none. absurd (none (h.tables tt));
    no_root = λ is. absurd (cc);
  }
  refused_old (opened.Store error) h = record {
    wrong_version = λ number is. absurd (cc);
    bad_row = λ is. absurd (cc);
    no_other_said = λ is. absurd (cc);
    tables = λ of. absurd of;
    untabled = λ none. let told = h.untabled none in let same : error ≡ no_tables = cc in
        ap migrate.Store same;
    no_root = λ is. absurd (cc);
  }
  refused_old opened.Memory h = record {
    wrong_version = λ number is. absurd (cc);
    bad_row = λ is. absurd (cc);
    no_other_said = λ is. absurd (cc);
    tables = λ of. absurd of;
    untabled = λ none. absurd (let told = h.untabled none in cc);
    no_root = λ is. absurd (cc);
  }

-- an error of the database is told as that alone
pub unread_of_store : (fault : OpenFault) (error : Error) → unread_fault fault ≡ migrate.Store
    error → fault ≡ opened.Store error
unread_of_store (opened.WrongVersion number) error is = absurd (cc)
unread_of_store opened.BadRow error is = absurd (cc)
unread_of_store (opened.Store other) error is = cc
unread_of_store opened.Memory error is = absurd (cc)

-- a look at the tables before they are migrated changes nothing of what a stop leaves
module _ {S : Type 0} (g : Ghosts S) (s : SettingsParts) (first between : Held S)
    (same : HasCleanDisk (state g between) → IsUnchanged (state g first) (state g between))
    (one : CommitsNothing (state g first) (state g between)) where
  as_was : HasCleanDisk (state g between) → database g between ≡ database g first
  as_was clean = (same clean).0.now_is

  was_open : HasCleanDisk (state g between) → IsTrue (state g first).is_open
  was_open clean = (same clean).0.was_open

  migrated_crash : (last : Held S) → Survives (state g between) (state g last)
      (CommitsMigrated g s between) → Survives (state g first) (state g last)
      (CommitsMigrated g s first)
  migrated_crash last two =
      survives_then (state g first) (state g between) (state g last) _ _ _ (λ clean trees none.
      absurd none)
      (λ clean trees made. (
        was_open (omega (arith, two.clean)),
        (
          made.1.0,
          subst (λ db. IsMigratedTo s db made.1.0) (as_was (omega (arith, two.clean)))
              made.1.1,
          made.1.2,
        ),
      )) one two

  pub migrates_then : (stored : StockParts S) → MigratesTables g s between stored →
      MigratesTables g s first stored
  migrates_then stored migrates = record {
    was_open = λ clean. was_open (let kept = migrates.crash.clean in omega (arith, kept));
    grown = λ clean. subst (λ db. IsGrown s db stored.registry)
        (as_was (let kept = migrates.crash.clean in omega (arith, kept))) (migrates.grown clean);
    migrated = λ clean. subst (λ db. IsMigratedBy s db (database g stored.store))
        (as_was (let kept = migrates.crash.clean in omega (arith, kept))) (migrates.migrated clean);
    crash = migrated_crash stored.store migrates.crash;
  }

  none_then : (left : Held S) → GivesBack g (CommitsMigrated g s between) between left →
      GivesBack g (CommitsMigrated g s first) first left
  none_then left none = record {
    autocommit = none.autocommit;
    was_open = λ clean on. was_open (let kept = none.crash.clean in omega (arith, kept));
    kept = λ clean on. none.kept clean on ∙ as_was (let kept = none.crash.clean in
        omega (arith, kept));
    crash = migrated_crash left none.crash;
  }

  store_then : (left : Held S) (fault : MigrateFault) → GivesBack g (CommitsMigrated g s between)
      between left → FailsMigrating g s between left fault → FailsMigrating g s first left fault
  store_then left fault none store error is tidy clean =
      let was = same (let kept = none.crash.clean in omega (arith, kept)) in
      elim (store error is (subst IsTidy (sym was.0.now_is) tidy) clean) [
        | inl caused ↦ inl (caused_then (state g first) (state g between) (state g left) was one
            error caused)
        | inr grows ↦
            inr
            (record {
              registry = grows.registry;
              grown = subst (λ db. IsGrown s db grows.registry)
                  was.0.now_is grows.grown;
            })
      ]

  pub fails_then : (left : Held S) (fault : MigrateFault) → FailsToMigrateTables g s between left
      fault → FailsToMigrateTables g s first left fault
  fails_then left fault fails = record {
    none = none_then left fails.none;
    why = λ clean. subst (λ db. RefusesOldRegistry s db fault)
        (as_was (let kept = fails.none.crash.clean in omega (arith, kept))) (fails.why clean);
    store = store_then left fault fails.none fails.store;
  }
