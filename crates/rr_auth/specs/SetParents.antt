-- The parents of sets, which a set's name without its last component names: for verdicts on new
-- sets.
use Rattle.std.specs.Prelude.{ℕ, Bool, false, not, List, Option, None, Some, is_none}
use Rattle.std.specs.Option.{option_map_or, option_and_then}
use Rattle.std.specs.FinMap.{get}
use Rattle.rr_number.specs.Parents.{parent_of}
use Rattle.rr_number.specs.declared.set_kind.SetKind.{SetKind}
use Rattle.rr_number.specs.declared.set_name.parent.Parent.{Parent}
use Rattle.rr_number.specs.declared.set_name.parent.Parent.TheVariants.{Number, Set, Bare}
use Rattle.rr_object.specs.declared.key.Key.{Key}
use Rattle.rr_object.specs.declared.key.Key.TheVariants.{AutNum}
use Rattle.rr_object.specs.Keys.{key_of_kind}
use Rattle.rr_object.specs.Objects.{Obj}
use Rattle.rr_auth.specs.Authority.{lower_passes}
use Rattle.rr_auth.specs.Registries.{Reg}

-- The key of a parent: of an aut-num, or of a set of the same kind (RFC 2622, 5; that several AS
-- numbers alone are none: profile).
abbrev pub parent_key : SetKind → Parent → Option Key
parent_key kind (Number n) = Some (AutNum n)
parent_key kind (Set name) = Some (key_of_kind kind name)
parent_key kind Bare = None

-- The object that is the parent of a set, if it is registered.
abbrev pub parent_object : Reg → SetKind → Parent → Option Obj
parent_object r kind parent = option_and_then (get r) (parent_key kind parent)

-- A set's name has several components, and no parent of it is registered (RFC 2725, 9).
abbrev pub lacks_parent : Reg → SetKind → List ℕ → Bool
lacks_parent r kind name =
    option_map_or (λ parent. is_none (parent_object r kind parent)) (parent_of name) false

-- A set's name has several components, and no registered parent authorises it (RFC 2725, 9).
abbrev pub parent_refuses : Reg → List (List ℕ) → SetKind → List ℕ → Bool
parent_refuses r secrets kind name = option_map_or
    (λ parent. not (option_map_or (lower_passes r secrets) (parent_object r kind parent) false))
    (parent_of name) false
