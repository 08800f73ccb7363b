-- The order that is derived for keys is the order of keys.
use Rattle.std.proofs.Common.{◌≡◌, refl, sym, ap, ◌∙◌}
use Rattle.std.specs.Ordering.{nat_cmp, ordering_then}
use Rattle.rr_object.specs.declared.key.Key.{Key}
use Rattle.rr_object.specs.declared.key.Key.TheVariants.{Mntner, AsBlock, AutNum, Inetnum, Route}
use Rattle.rr_object.specs.declared.key.Key.TheVariants.{AsSet, RouteSet}
use Rattle.rr_object.specs.contracts.key.KeyOrd.TheImpl as derived
use Rattle.rr_object.specs.KeyOrders.{key_cmp}
use Rattle.rr_object.proofs.Digits.{then_assoc, then_equal}

pub derived_order : (a b : Key) → (derived.ghosts).cmp a b ≡ key_cmp a b
derived_order (Mntner n) (Mntner m) = refl
derived_order (Mntner n) (AsBlock t) = refl
derived_order (Mntner n) (AutNum m) = refl
derived_order (Mntner n) (Inetnum t) = refl
derived_order (Mntner n) (Route q m) = refl
derived_order (Mntner n) (AsSet m) = refl
derived_order (Mntner n) (RouteSet m) = refl
derived_order (AsBlock s) (Mntner m) = refl
derived_order (AsBlock s) (AsBlock t) = ap (ordering_then (nat_cmp s.first t.first))
    (sym (then_equal _))
derived_order (AsBlock s) (AutNum m) = refl
derived_order (AsBlock s) (Inetnum t) = refl
derived_order (AsBlock s) (Route q m) = refl
derived_order (AsBlock s) (AsSet m) = refl
derived_order (AsBlock s) (RouteSet m) = refl
derived_order (AutNum n) (Mntner m) = refl
derived_order (AutNum n) (AsBlock t) = refl
derived_order (AutNum n) (AutNum m) = sym (then_equal _)
derived_order (AutNum n) (Inetnum t) = refl
derived_order (AutNum n) (Route q m) = refl
derived_order (AutNum n) (AsSet m) = refl
derived_order (AutNum n) (RouteSet m) = refl
derived_order (Inetnum s) (Mntner m) = refl
derived_order (Inetnum s) (AsBlock t) = refl
derived_order (Inetnum s) (AutNum m) = refl
derived_order (Inetnum s) (Inetnum t) = ap (ordering_then (nat_cmp s.first t.first))
    (sym (then_equal _))
derived_order (Inetnum s) (Route q m) = refl
derived_order (Inetnum s) (AsSet m) = refl
derived_order (Inetnum s) (RouteSet m) = refl
derived_order (Route p n) (Mntner m) = refl
derived_order (Route p n) (AsBlock t) = refl
derived_order (Route p n) (AutNum m) = refl
derived_order (Route p n) (Inetnum t) = refl
derived_order (Route p n) (Route q m) =
    then_assoc (nat_cmp p.address q.address) (nat_cmp p.length q.length) (nat_cmp n m)
    ∙ ap (λ o. ordering_then (nat_cmp p.address q.address)
    (ordering_then (nat_cmp p.length q.length) o)) (sym (then_equal (nat_cmp n m)))
derived_order (Route p n) (AsSet m) = refl
derived_order (Route p n) (RouteSet m) = refl
derived_order (AsSet n) (Mntner m) = refl
derived_order (AsSet n) (AsBlock t) = refl
derived_order (AsSet n) (AutNum m) = refl
derived_order (AsSet n) (Inetnum t) = refl
derived_order (AsSet n) (Route q m) = refl
derived_order (AsSet n) (AsSet m) = refl
derived_order (AsSet n) (RouteSet m) = refl
derived_order (RouteSet n) (Mntner m) = refl
derived_order (RouteSet n) (AsBlock t) = refl
derived_order (RouteSet n) (AutNum m) = refl
derived_order (RouteSet n) (Inetnum t) = refl
derived_order (RouteSet n) (Route q m) = refl
derived_order (RouteSet n) (AsSet m) = refl
derived_order (RouteSet n) (RouteSet m) = refl
