-- What a registered object says of sets: for `AsSets` and `RouteSets`.
use Rattle.std.specs.Prelude.{ℕ, Bool, ◌||◌, List, Option, None, Some}
use Rattle.std.specs.List.{list_any}
use Rattle.std.specs.Str.{bytes_eq}
use Rattle.rr_object.specs.Objects.{Obj}
use Rattle.rr_object.specs.Parts.{ByRefParts}
use Rattle.rr_object.specs.declared.member.Member.{Member}
use Rattle.rr_object.specs.declared.member.Member.TheVariants as member
use Rattle.rr_object.specs.declared.member.MemberSet.TheVariants as set

-- A member that is the name of a set (RFC 2622, 5).
abbrev pub set_listed : Member → Option (List ℕ)
set_listed (member.Range r) = None
set_listed (member.Set (set.AutNum n) operator) = None
set_listed (member.Set (set.Set name) operator) = Some name

-- A member that is an AS number (RFC 2622, 5).
abbrev pub number_listed : Member → Option ℕ
number_listed (member.Range r) = None
number_listed (member.Set (set.AutNum n) operator) = Some n
number_listed (member.Set (set.Set name) operator) = None

-- A set takes an object's word that the object belongs to it: the set's `mbrs-by-ref` lists `ANY`
-- or a maintainer in the object's `mnt-by` (RFC 2622, 5).
abbrev pub takes : ByRefParts → Obj → Bool
takes by_ref object = by_ref.any || list_any
    (λ name. list_any (λ maintainer. bytes_eq maintainer name) object.maintainers) by_ref.names
