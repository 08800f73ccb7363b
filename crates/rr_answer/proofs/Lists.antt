-- Lists of objects that are lent.
use Rattle.std.proofs.Common.{◌≡◌, ℕ, Bool, true, false, cond, Bor, List, [], ◌∷◌, ◌++◌, refl, ap}
use Rattle.std.proofs.Common.{◌∙◌}
use Rattle.std.specs.Prelude.{Option, None, Some, filter}
use Rattle.std.specs.List.{cons_option, flat_map}
use Rattle.std.proofs.lemmas.List.{map-append}
use Rattle.std.proofs.lemmas.List.Folds.{flat_map-map}
use Rattle.rr_object.specs.Objects.{Obj}
use Rattle.rr_sets.specs.Lists.{lent}

-- what is kept of a list is lent of it
pub filtered : (test : Obj → Bool) (objects : List (Bor Obj)) →
    lent (filter (λ object. test object.now) objects) ≡ filter test (lent objects)
filtered test [] = refl
filtered test (object ∷ objects) =
    elim (test object.now) as
    (λ b. lent (cond b (object ∷ filter (λ o. test o.now) objects)
    (filter (λ o. test o.now) objects))
    ≡ cond b (object.now ∷ filter test (lent objects)) (filter test (lent objects))) [
      | true ↦ ap (λ os. object.now ∷ os) (filtered test objects)
      | false ↦ filtered test objects
    ]

-- one object, or none, before others
pub lent_after : (o : Option Obj) (found routes : List (Bor Obj)) → lent found ≡ cons_option o [] →
    lent (found ++ routes) ≡ cons_option o (lent routes)
lent_after None found routes e = map-append (λ object. object.now) found routes
    ∙ ap (λ os. os ++ lent routes) e
lent_after (Some o) found routes e = map-append (λ object. object.now) found routes
    ∙ ap (λ os. os ++ lent routes) e

-- the texts of what is lent
pub texts_lent : (text : Obj → List ℕ) (objects : List (Bor Obj)) → flat_map text (lent objects)
    ≡ flat_map (λ object. text object.now) objects
texts_lent text objects = flat_map-map text (λ object. object.now) objects
