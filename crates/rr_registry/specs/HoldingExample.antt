-- The worked example: A-MNT holds 10.1.0.0/16 with AS1 in a registry of its neighbours. Only what
-- authority speaks of is written down: the texts of the objects are left out.
use Rattle.std.specs.Prelude.{ℕ, ◌+◌, false, List, [], ◌∷◌, codes, map}
use Rattle.std.specs.FinMap.{from_entries}
use Rattle.rr_number.specs.Addresses.{greatest_address}
use Rattle.rr_number.specs.AsNumbers.{greatest_16_bit_as_number, greatest_as_number}
use Rattle.rr_number.specs.Spans.{Ends}
use Rattle.rr_object.specs.declared.key.Key.{Key}
use Rattle.rr_object.specs.declared.key.Key.TheVariants.{Mntner, AsBlock, AutNum, Inetnum, Route}
use Rattle.rr_object.specs.Objects.{Obj}
use Rattle.rr_object.specs.Parts.{AuthParts}
use Rattle.rr_auth.specs.Registries.{Reg}
use Rattle.rr_registry.specs.Holdings.{Holding}

-- The maintainer of all AS numbers and of all addresses.
abbrev pub root_mnt : List ℕ
root_mnt = codes "ROOT-MNT"

-- The maintainer of the holders.
abbrev pub a_mnt : List ℕ
a_mnt = codes "A-MNT"

-- The maintainer of a neighbour.
abbrev pub b_mnt : List ℕ
b_mnt = codes "B-MNT"

-- The SHA-256 digest of `abc` (FIPS 180-4).
abbrev pub digest_of_abc : List ℕ
digest_of_abc =
    186 ∷ (120 ∷ (22 ∷ (191 ∷ (143
    ∷ (1 ∷ (207 ∷ (234 ∷ (65 ∷ (65 ∷ (64 ∷ (222 ∷ (93 ∷ (174 ∷ (34 ∷ (35 ∷ (
    176 ∷ (3 ∷ (97 ∷ (163 ∷ (150 ∷ (23 ∷ (122 ∷ (156 ∷ (180
    ∷ (16 ∷ (255 ∷ (97 ∷ (242 ∷ (0 ∷ (21 ∷ (173 ∷ [])))))))))))))))))))))))))))))))

-- An object of this key, these lines of `auth` and this one name in mnt-by, and nothing else.
abbrev pub object_of_maintainer : Key → List AuthParts → List ℕ → Obj
object_of_maintainer key auths name = record {
  key = key;
  paragraph = [];
  maintainers = name ∷ [];
  lower = [];
  routes = [];
  auths = auths;
  members = [];
  by_ref = record { any = false; names = [] };
  member_of = [];
}

-- A maintainer that is its own mnt-by, with a line of this salt, which fits the rest of `abc` after
-- the salt.
abbrev pub maintainer_with : List ℕ → List ℕ → Obj
maintainer_with name salt =
    object_of_maintainer (Mntner name) (record { salt = salt; digest = digest_of_abc } ∷ []) name

-- Another object of one maintainer.
abbrev pub object_by : List ℕ → Key → Obj
object_by name key = object_of_maintainer key [] name

-- The span from one number to another.
abbrev pub ends : ℕ → ℕ → Ends
ends first last = record { first = first; last = last }

-- The three maintainers. ROOT-MNT has all AS numbers, in two as-blocks, and all addresses, A-MNT
-- has AS1, and B-MNT has AS2 and the inetnum 10.0.0.0/8. In it A-MNT has 10.1.0.0/16, as an inetnum
-- and as a route of AS1.
abbrev pub example_objects : List Obj
example_objects =
    maintainer_with a_mnt (codes "ab")
    ∷ (maintainer_with b_mnt [] ∷ (maintainer_with root_mnt (codes "a") ∷ (
    object_by root_mnt (AsBlock (ends 0 greatest_16_bit_as_number)) ∷ (
    object_by root_mnt (AsBlock (ends (greatest_16_bit_as_number + 1) greatest_as_number)) ∷ (
    object_by a_mnt (AutNum 1) ∷ (object_by b_mnt (AutNum 2) ∷ (
    object_by root_mnt (Inetnum (ends 0 greatest_address))
    ∷ (object_by b_mnt (Inetnum (ends 167772160 184549375)) ∷ (
    object_by a_mnt (Inetnum (ends 167837696 167903231)) ∷ (
    object_by a_mnt (Route (record { address = 167837696; length = 16 }) 1) ∷ []))))))))))

-- The registry of these objects.
abbrev pub example_registry : Reg
example_registry = from_entries (map (λ o. (o.key, o)) example_objects)

-- A-MNT holds 10.1.0.0/16, with AS1.
abbrev pub example_holding : Holding
example_holding =
    record {
      prefix = record { address = 167837696; length = 16 };
      holders = a_mnt ∷ [];
      numbers =
          1 ∷ [];
    }
