-- What private functions that migrate tables promise each other. No public clause cites these.
use Rattle.std.specs.Prelude.{◌≡◌, List, [], ◌∷◌, ◌++◌, Some}
use Rattle.rr_object.specs.Objects.{Obj}
use Rattle.rr_object.specs.Readings.{ReadsAs}
use Rattle.rr_registry.specs.declared.load.LoadFault.{LoadFault}
use Rattle.rr_registry.specs.declared.load.LoadFault.TheVariants.{Duplicate, Overlap, Unnamed}
use Rattle.rr_registry.specs.declared.load.LoadFault.TheVariants.{Memory}
use Rattle.rr_registry.specs.Loading.{load_fault}
use Rattle.rr_store.specs.Migrating.{upper_block}
use Rattle.rr_store.specs.declared.store_fault.MigrateFault.{MigrateFault}
use Rattle.rr_store.specs.declared.store_fault.MigrateFault.TheVariants as migrate
use Rattle.rr_desk.specs.Settings.{SettingsParts}
use Rattle.rr_desk.specs.Migrating.{AreRegistry}

-- something is the matter with objects as a registry
pub record HasLoadFault (objects : List Obj) : Type 0 where
  pub fault : LoadFault
  pub is_fault : load_fault objects ≡ Some fault

-- something is the matter with the objects and the block of the AS numbers of more than 16 bits
pub record HasUpperFault (settings : SettingsParts) (objects : List Obj) : Type 0 where
  pub upper : Obj
  pub read : ReadsAs settings.source (upper_block settings.root settings.source) upper
  pub fault : HasLoadFault (objects ++ upper ∷ [])

-- that memory ran out is told as such, and what else is the matter with objects as this fault
abbrev pub told_as : LoadFault → MigrateFault → MigrateFault
told_as (Duplicate n) told = told
told_as (Overlap n) told = told
told_as (Unnamed n) told = told
told_as Memory told = migrate.Memory

-- why there is no registry of the objects and the block
abbrev pub IsGrowthFault : SettingsParts → List Obj → MigrateFault → Type 0
IsGrowthFault settings objects (migrate.WrongVersion number) = ⊥
IsGrowthFault settings objects migrate.BadRow = HasLoadFault objects
IsGrowthFault settings objects migrate.NoRoot =
    AreRegistry objects × HasUpperFault settings objects
IsGrowthFault settings objects (migrate.Store error) = ⊥
IsGrowthFault settings objects migrate.Memory = Unit {0}
