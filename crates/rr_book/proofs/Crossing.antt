-- A key that is no span crosses nothing.
use Rattle.std.proofs.Common.{◌≡◌, false, ◌||◌, List, [], ◌∷◌, refl, ◌∙◌}
use Rattle.std.specs.List.{list_any}
use Rattle.rr_object.specs.Objects.{Obj}
use Rattle.rr_object.specs.declared.key.Key.{Key}
use Rattle.rr_object.specs.declared.key.Key.TheVariants.{Mntner, AsBlock, AutNum, Inetnum, Route}
use Rattle.rr_object.specs.declared.key.Key.TheVariants.{AsSet, RouteSet}
use Rattle.rr_auth.specs.Registries.{keys_cross}
use Rattle.rr_auth.proofs.Crossing.{keys_cross_back}
use Rattle.rr_book.specs.Private.{is_span}

crosses_none : (k l : Key) → is_span k ≡ false → keys_cross k l ≡ false
crosses_none (Mntner n) l e = refl
crosses_none (AsBlock s) l e = cc
crosses_none (AutNum n) l e = refl
crosses_none (Inetnum s) l e = cc
crosses_none (Route p n) l e = refl
crosses_none (AsSet n) l e = refl
crosses_none (RouteSet n) l e = refl

pub none_crosses : (k : Key) (os : List Obj) → is_span k ≡ false →
    list_any (λ o. keys_cross o.key k) os ≡ false
none_crosses k [] e = refl
none_crosses k (o ∷ os) e =
    let apart = keys_cross_back o.key k ∙ crosses_none k o.key e in
    (λ i. apart i || list_any (λ x. keys_cross x.key k) os) ∙ none_crosses k os e
