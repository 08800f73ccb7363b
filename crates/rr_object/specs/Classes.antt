-- The classes of objects, with their numbers and names: for keys, and for all that lists objects.
-- Rows have the numbers.
use Rattle.std.specs.Prelude.{ℕ, List, [], ◌∷◌, Option, codes, find}
use Rattle.std.specs.Str.{bytes_eq}
use Rattle.rr_object.specs.declared.class.Class.{Class}
use Rattle.rr_object.specs.declared.class.Class.TheVariants.{Mntner, AsBlock, AutNum, Inetnum}
use Rattle.rr_object.specs.declared.class.Class.TheVariants.{Route, AsSet, RouteSet}

-- the classes in the order of answers and dumps (profile)
abbrev pub all_classes : List Class
all_classes =
    Mntner ∷ (AsBlock ∷ (AutNum ∷ (Inetnum ∷ (Route ∷ (AsSet ∷ (RouteSet ∷ []))))))

-- the number of a class, its place in that order (profile)
abbrev pub class_number : Class → ℕ
class_number Mntner = 1
class_number AsBlock = 2
class_number AutNum = 3
class_number Inetnum = 4
class_number Route = 5
class_number AsSet = 6
class_number RouteSet = 7

-- the name of a class is that of the first attribute of its objects (RFC 2622, 2)
abbrev pub class_name : Class → List ℕ
class_name Mntner = codes "mntner"
class_name AsBlock = codes "as-block"
class_name AutNum = codes "aut-num"
class_name Inetnum = codes "inetnum"
class_name Route = codes "route"
class_name AsSet = codes "as-set"
class_name RouteSet = codes "route-set"

-- the class of exactly this name; names of classes are in lower case (RFC 2622, 2)
abbrev pub class_named : List ℕ → Option Class
class_named name = find (λ class. bytes_eq (class_name class) name) all_classes
