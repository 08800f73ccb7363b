-- How often the objects of a registry name each maintainer.
use Rattle.std.specs.Prelude.{◌≡◌, ℕ, List, cond, unwrap_or}
use Rattle.std.specs.BTreeMap.{BTreeMap, get as count_under}
use Rattle.std.specs.Cmp.Lexicographic.{slice_cmp}
use Rattle.std.specs.FinMap.{values}
use Rattle.std.specs.List.{count_by, sum_by}
use Rattle.std.specs.Ordering.{nat_cmp}
use Rattle.std.specs.Str.{bytes_eq}
use Rattle.rr_object.specs.declared.key.Key.{Key}
use Rattle.rr_object.specs.Objects.{Obj, names_of}
use Rattle.rr_auth.specs.Registries.{Reg, is_mntner_of}

-- How often names that stand in an object of the key name a maintainer; a mntner's own name does
-- not count (profile).
abbrev pub namings : List ℕ → Key → List (List ℕ) → ℕ
namings name key names = cond (is_mntner_of name key) 0 (count_by (λ n. bytes_eq n name) names)

-- How often an object names a maintainer other than itself (profile).
abbrev pub namings_by : List ℕ → Obj → ℕ
namings_by name o = namings name o.key (names_of o)

-- The count under a name, or 0 if there is none.
abbrev pub count_at : BTreeMap (List ℕ) ℕ → List ℕ → ℕ
count_at counts name = unwrap_or (count_under (slice_cmp nat_cmp) counts name) 0

-- Under each name stands how often the registered objects name it, its own mntner left out
-- (profile).
abbrev pub HasNamings : Reg → BTreeMap (List ℕ) ℕ → Type 0
HasNamings r counts =
    (name : List ℕ) → count_at counts name ≡ sum_by (namings_by name) (values r)
