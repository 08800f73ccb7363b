-- Of which class an object is, and which sets it names: by these the lists for expansions are
-- chosen.
use Rattle.std.specs.Prelude.{ℕ, Bool, List, ◌==◌}
use Rattle.std.specs.List.{list_any}
use Rattle.std.specs.Str.{bytes_eq}
use Rattle.rr_object.specs.Classes.{class_number}
use Rattle.rr_object.specs.Keys.{class_of}
use Rattle.rr_object.specs.Objects.{Obj}
use Rattle.rr_object.specs.declared.class.Class.{Class}

-- The object is of the class.
abbrev pub is_of_class : Class → Obj → Bool
is_of_class class o = class_number (class_of o.key) == class_number class

-- The object's `member-of` names the set (RFC 2622, 5).
abbrev pub names_set : List ℕ → Obj → Bool
names_set name o = list_any (λ own. bytes_eq own name) o.member_of
