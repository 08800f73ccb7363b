-- The verdict on an item, and the registry after it: for `judge`, and for `rr_registry`, which
-- carries verdicts out.
use Rattle.std.specs.Prelude.{ℕ, Bool, true, false, List, [], ◌∷◌, Option, None, Some}
use Rattle.std.specs.Prelude.{if◌then◌else◌}
use Rattle.std.specs.Option.{option_map_or}
use Rattle.std.specs.FinMap.{get, insert, remove}
use Rattle.rr_text.specs.Fields.{fields_eq}
use Rattle.rr_object.specs.declared.code.Code.{Code}
use Rattle.rr_object.specs.declared.code.Code.TheVariants.{E10, E11, E12, E13, E14, E15}
use Rattle.rr_object.specs.declared.code.Code.TheVariants.{E16, E17, E18}
use Rattle.rr_object.specs.declared.key.Key.{Key}
use Rattle.rr_object.specs.Objects.{Obj}
use Rattle.rr_auth.specs.declared.item.Item.{Item}
use Rattle.rr_auth.specs.declared.item.Item.TheVariants.{Submit, Delete as DeleteItem}
use Rattle.rr_auth.specs.declared.verdict.Verdict.{Verdict}
use Rattle.rr_auth.specs.declared.verdict.Verdict.TheVariants.{Add, Change, Unchanged, Delete}
use Rattle.rr_auth.specs.declared.verdict.Verdict.TheVariants.{Refuse}
use Rattle.rr_auth.specs.Registries.{Reg, seen_by}
use Rattle.rr_auth.specs.Conditions.{names_unknown, unauthorised, is_uncovered, cover_refuses}
use Rattle.rr_auth.specs.Conditions.{lacks_origin, origin_refuses, crosses_registered, is_in_use}
use Rattle.rr_auth.specs.Conditions.{is_unregistered}

-- A condition of refusal with its code.
pub record RefusalCondition : Type 0 where
  pub holds : Bool
  pub code : Code

-- The code of the first condition that holds, otherwise the verdict that follows.
abbrev pub first_of : List RefusalCondition → Verdict → Verdict
first_of [] v = v
first_of (c ∷ cs) v = if c.holds then Refuse c.code else first_of cs v

-- The verdict on a new object by its place in the hierarchy: the first of E16, E14, E15, E12 and
-- E13 that holds, and otherwise that it is added (RFC 2725, 9; profile).
abbrev pub by_place : Reg → List (List ℕ) → Key → Verdict
by_place r secrets k = first_of (
    record { holds = crosses_registered r k; code = E16 } ∷ (
    record { holds = lacks_origin r k; code = E14 } ∷ (
    record { holds = origin_refuses r secrets k; code = E15 } ∷ (
    record { holds = is_uncovered r k; code = E12 } ∷ (
    record { holds = cover_refuses r secrets k; code = E13 } ∷ []))))) Add

-- The verdict on an object whose key is new: the first of E10 and E11 that holds, and otherwise
-- that by its place. E10 and E11 ask the registry with the object in it, where that is a mntner: so
-- a new mntner may name itself, and its own secret counts (RFC 2725, 9; profile).
abbrev pub addition : Reg → List (List ℕ) → Obj → Verdict
addition r secrets o = first_of (
    record { holds = names_unknown (seen_by (Some o) r) o; code = E10 } ∷ (
    record { holds = unauthorised (seen_by (Some o) r) secrets o; code = E11 } ∷ []))
    (by_place r secrets o.key)

-- The verdict on an object whose key is registered: the first of E10 and E11 that holds, both in
-- the registry as it is. The new object's names decide E10, the stored mnt-by E11. Otherwise it is
-- a change, or no change where the paragraphs are equal (RFC 2725, 9; profile).
abbrev pub change : Reg → List (List ℕ) → Obj → Obj → Verdict
change r secrets stored o = first_of (
    record { holds = names_unknown r o; code = E10 } ∷ (
    record { holds = unauthorised r secrets stored; code = E11 } ∷ []))
    (if fields_eq stored.paragraph o.paragraph then Unchanged else Change)

-- An object is an addition where no object is stored under its key, otherwise a change of that one
-- (RFC 2725, 9).
abbrev pub submission : Option Obj → Reg → List (List ℕ) → Obj → Verdict
submission None r secrets o = addition r secrets o
submission (Some stored) r secrets o = change r secrets stored o

-- A deletion needs that the object is stored (E18), that its mnt-by passes (E11), and that no other
-- object names it, if it is a mntner (E17). It is refused with the code of the first of these that
-- is lacking (RFC 2725, 9; profile).
abbrev pub deletion : Option Obj → Reg → List (List ℕ) → Key → Verdict
deletion stored r secrets k = first_of (
    record { holds = is_unregistered stored; code = E18 } ∷ (
    record { holds = option_map_or (unauthorised r secrets) stored false; code = E11 } ∷ (
    record { holds = is_in_use r k; code = E17 } ∷ []))) Delete

-- The verdict on an item: for an object that is submitted, that on an addition or a change; for a
-- key, that on a deletion (profile).
abbrev pub verdict : Reg → List (List ℕ) → Item → Verdict
verdict r secrets (Submit o) = submission (get r o.key) r secrets o
verdict r secrets (DeleteItem k) = deletion (get r k) r secrets k

-- A verdict is one of those that are given on such an item: what is submitted is added, changed,
-- left as it is or refused, and what is to be deleted is deleted or refused (profile).
abbrev pub fits_item : Item → Verdict → Bool
fits_item (Submit o) Delete = false
fits_item (Submit o) _ = true
fits_item (DeleteItem k) Delete = true
fits_item (DeleteItem k) (Refuse code) = true
fits_item (DeleteItem k) _ = false

-- The registry with the object that an item submits under its key, in place of one that stood
-- there; as it is where the item is a deletion.
abbrev pub added : Reg → Item → Reg
added r (Submit o) = insert r o.key o
added r (DeleteItem k) = r

-- The registry without the object of the key that an item deletes; as it is where the item is a
-- submission.
abbrev pub removed : Reg → Item → Reg
removed r (Submit o) = r
removed r (DeleteItem k) = remove r k

-- The registry after a verdict: with the object after an addition or a change, without it after a
-- deletion. A refusal and an equal paragraph leave it as it was (profile).
abbrev pub after : Verdict → Reg → Item → Reg
after Add r i = added r i
after Change r i = added r i
after Unchanged r i = r
after Delete r i = removed r i
after (Refuse code) r i = r

-- The registry after an item: what its verdict leaves.
abbrev pub step : Reg → List (List ℕ) → Item → Reg
step r secrets i = after (verdict r secrets i) r i
