-- The class of a key, the keys of sets, and which key is a maintainer's: for `Key`, and for all
-- crates that tell objects by their keys.
use Rattle.std.specs.Prelude.{ℕ, Bool, false, List}
use Rattle.std.specs.Str.{bytes_eq}
use Rattle.rr_number.specs.declared.set_kind.SetKind.{SetKind}
use Rattle.rr_number.specs.declared.set_kind.SetKind.TheVariants as kinds
use Rattle.rr_object.specs.declared.class.Class.{Class}
use Rattle.rr_object.specs.declared.key.Key.{Key}
use Rattle.rr_object.specs.declared.class.Class.TheVariants as class
use Rattle.rr_object.specs.declared.key.Key.TheVariants.{Mntner, AsBlock, AutNum, Inetnum, Route}
use Rattle.rr_object.specs.declared.key.Key.TheVariants.{AsSet, RouteSet}

-- the class of the object that a key names (RFC 2622, 2)
abbrev pub class_of : Key → Class
class_of (Mntner name) = class.Mntner
class_of (AsBlock span) = class.AsBlock
class_of (AutNum number) = class.AutNum
class_of (Inetnum span) = class.Inetnum
class_of (Route prefix origin) = class.Route
class_of (AsSet name) = class.AsSet
class_of (RouteSet name) = class.RouteSet

-- the key of the set of a kind and a name; whether the name is one of that kind is not asked
-- (RFC 2622, 5)
abbrev pub key_of_kind : SetKind → List ℕ → Key
key_of_kind kinds.AsSet name = AsSet name
key_of_kind kinds.RouteSet name = RouteSet name

-- the key is that of the mntner of this name (RFC 2622, 3)
abbrev pub is_mntner_of : List ℕ → Key → Bool
is_mntner_of name (Mntner n) = bytes_eq n name
is_mntner_of name _ = false
