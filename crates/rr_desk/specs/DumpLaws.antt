-- What is true of dumps that are read again: for `src/dump_laws.rt`.
use Rattle.std.specs.Prelude.{◌≡◌, ℕ, ◌≤◌, true, List, Ok, Some, length}
use Rattle.std.specs.FinMap.{get, values}
use Rattle.rr_text.specs.CanonicalText.{canonical}
use Rattle.rr_text.specs.Entries.{size_limit}
use Rattle.rr_text.specs.Fields.{AreFields}
use Rattle.rr_object.specs.declared.key.Key.{Key}
use Rattle.rr_object.specs.Objects.{Obj}
use Rattle.rr_auth.specs.Registries.{Reg, Sound}
use Rattle.rr_auth.specs.Sources.{IsRegistryOf}
use Rattle.rr_answer.specs.Dumps.{dump}
use Rattle.rr_desk.specs.Dumps.{IsDumpOf, dump_objects}

-- a registry of a source, each of whose objects has a paragraph of attributes (RFC 2622, 2) that is
-- read again as it is printed: its canonical text has at most 65,536 bytes (profile)
pub record IsDumpable (source : List ℕ) (registry : Reg) : Type 0 where
  pub of_source : IsRegistryOf source registry
  pub fields : (k : Key) (o : Obj) → get registry k ≡ Some o → AreFields o.paragraph
  pub small : (k : Key) (o : Obj) → get registry k ≡ Some o
      → length (canonical o.paragraph) ≤ size_limit

-- the full dump of such a registry reads as its objects, in their order, and these are taken as
-- that registry and as no other (profile)
pub record IsReadAgain (source : List ℕ) (registry : Reg) : Type 0 where
  pub objects : dump_objects source (dump true registry) ≡ Ok (values registry)
  pub same : IsDumpOf source (dump true registry) registry
  pub alone : (other : Reg) → IsDumpOf source (dump true registry) other → other ≡ registry

-- the full dump of each such registry is read again as that registry (profile)
abbrev pub FullDumpsAreRead : Type 0
FullDumpsAreRead = (source : List ℕ) (registry : Reg) → IsDumpable source registry
    → IsReadAgain source registry

-- a sound registry of which a text is a dump is of the source in which the text is read (profile)
abbrev pub DumpsAreOfTheirSource : Type 0
DumpsAreOfTheirSource = (source text : List ℕ) (registry : Reg) → IsDumpOf source text registry
    → Sound registry → IsRegistryOf source registry
