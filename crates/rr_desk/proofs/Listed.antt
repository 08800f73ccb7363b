-- Rows of objects that are no sound registry, and those of one.
use Rattle.std.proofs.Common.{◌≡◌, inl, inr, ℕ, List, Some, refl, subst, ◌∙◌}
use Rattle.std.specs.FinMap.{empty, values}
use Rattle.sqlite_trees.proofs.ListLemmas.{all_of}
use Rattle.sqlite.specs.Effect.{Database}
use Rattle.sqlite.specs.declared.error.Error.{Error}
use Rattle.rr_object.specs.Objects.{Obj}
use Rattle.rr_auth.specs.Registries.{Reg}
use Rattle.rr_auth.specs.Sources.{IsRegistryOf}
use Rattle.rr_registry.specs.declared.load.LoadFault.{LoadFault}
use Rattle.rr_registry.specs.declared.load.LoadFault.TheVariants.{Duplicate, Overlap, Unnamed}
use Rattle.rr_registry.specs.declared.load.LoadFault.TheVariants.{Memory}
use Rattle.rr_registry.specs.Loading.{IsFaultOf, load_fault}
use Rattle.rr_store.specs.Maps.{AreStored, HasRows, IsObjectOf}
use Rattle.rr_store.proofs.MapLists.{in_order_apart, one_map, put_all, stored_rows, values_in_order}
use Rattle.rr_store.proofs.MapRows.{each_value}
use Rattle.rr_store.specs.declared.store_fault.OpenFault.TheVariants as opened
use Rattle.rr_desk.proofs.SoundLists.{sound_list}
use Rattle.rr_desk.specs.Opened.{HasNoRegistry}
use Rattle.rr_desk.specs.Private.{opening_fault}
use Rattle.rr_desk.proofs.ListRows.{gathered_is}

-- the tables hold the rows of objects of the source which are not a sound registry: one crosses
-- another, or names a maintainer who is not among them (profile)
pub record IsUnsound (source : List ℕ) (db : Database) : Type 0 where
  pub objects : List Obj
  pub stored : AreStored source objects db
  pub fault : LoadFault
  pub is_fault : load_fault objects ≡ Some fault

-- rows of objects that are no registry are those of no registry
pub unsound_rows : (source : List ℕ) (db : Database) → IsUnsound source db → HasNoRegistry source db
unsound_rows source db bad r of_source rows =
    let same = one_map (put_all empty bad.objects) r db
    (stored_rows source bad.objects db bad.stored) rows in
    let none = sound_list bad.objects r bad.stored.apart of_source.sound
    (gathered_is empty bad.objects ∙ same) in
    let is = bad.is_fault in
    absurd (cc)

-- the rows of a registry of the source are those of the list of its objects
pub registry_stored : (source : List ℕ) (r : Reg) (db : Database) → IsRegistryOf source r →
    HasRows r db → AreStored source (values r) db
registry_stored source r db of_source rows = record {
  rows = rows.rows;
  version = rows.version;
  formed = all_of _ (λ o. refl) (values r);
  of_source = each_value r rows.keyed (IsObjectOf source)
      (λ k o found. record {
        fields = (rows.keyed.read k o found).fields;
        read = of_source.read k o
            found;
      });
  apart = in_order_apart (values r) (values_in_order r rows.keyed);
}

-- no list of objects of the source has these rows in tables of version 2
abbrev pub IsUnreadable : List ℕ → Database → Type 0
IsUnreadable source db = (objects : List Obj) → AreStored source objects db → ⊥

-- rows that no list of objects has are those of no registry
pub unreadable_rows : (source : List ℕ) (db : Database) → IsUnreadable source db →
    HasNoRegistry source db
unreadable_rows source db bad r of_source rows =
    bad (values r) (registry_stored source r db of_source rows)

-- what is the matter with a list is never told as another version
pub no_version : (fault : LoadFault) (number : ℕ) → opening_fault fault ≡ opened.WrongVersion
    number → ⊥
no_version (Duplicate n) number is = absurd (cc)
no_version (Overlap n) number is = absurd (cc)
no_version (Unnamed n) number is = absurd (cc)
no_version Memory number is = absurd (cc)

-- nor as an error of the database
pub no_error : (fault : LoadFault) (error : Error) → opening_fault fault ≡ opened.Store error → ⊥
no_error (Duplicate n) error is = absurd (cc)
no_error (Overlap n) error is = absurd (cc)
no_error (Unnamed n) error is = absurd (cc)
no_error Memory error is = absurd (cc)

-- and as bad rows only where they are those of no registry
pub bad_objects : (source : List ℕ) (os : List Obj) (fault : LoadFault) (db : Database) →
    IsFaultOf os fault → opening_fault fault ≡ opened.BadRow → AreStored source os db →
    HasNoRegistry source db
bad_objects source os fault db (inl memory) is stored =
    let told : opening_fault Memory ≡ opened.BadRow = subst (λ f. opening_fault f ≡ opened.BadRow)
    memory is in
    absurd (cc)
bad_objects source os fault db (inr bad) is stored = unsound_rows source db
    (record { objects = os; stored = stored; fault = fault; is_fault = bad })
