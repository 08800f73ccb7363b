-- Crossing has no direction, and nothing crosses itself.
use Rattle.std.proofs.Common.{◌≡◌, false, refl, arith}
use Rattle.std.proofs.lemmas.Grind.{common_steps}
use Rattle.rr_number.specs.Spans.{Ends, crosses}
use Rattle.rr_object.specs.declared.key.Key.{Key}
use Rattle.rr_object.specs.declared.key.Key.TheVariants.{Mntner, AsBlock, AutNum, Inetnum, Route}
use Rattle.rr_object.specs.declared.key.Key.TheVariants.{AsSet, RouteSet}
use Rattle.rr_auth.specs.Registries.{keys_cross}

crosses_back : (s t : Ends) → crosses s t ≡ crosses t s
crosses_back s t = grind (arith, common_steps)

no_self_cross : (s : Ends) → crosses s s ≡ false
no_self_cross s = grind (arith, common_steps)

pub keys_cross_back : (k l : Key) → keys_cross k l ≡ keys_cross l k
keys_cross_back (AsBlock s) (AsBlock t) = crosses_back s t
keys_cross_back (Inetnum s) (Inetnum t) = crosses_back s t
keys_cross_back (Mntner n) (Mntner m) = refl
keys_cross_back (Mntner n) (AsBlock t) = refl
keys_cross_back (Mntner n) (AutNum m) = refl
keys_cross_back (Mntner n) (Inetnum t) = refl
keys_cross_back (Mntner n) (Route p m) = refl
keys_cross_back (Mntner n) (AsSet m) = refl
keys_cross_back (Mntner n) (RouteSet m) = refl
keys_cross_back (AsBlock s) (Mntner m) = refl
keys_cross_back (AsBlock s) (AutNum m) = refl
keys_cross_back (AsBlock s) (Inetnum t) = refl
keys_cross_back (AsBlock s) (Route p m) = refl
keys_cross_back (AsBlock s) (AsSet m) = refl
keys_cross_back (AsBlock s) (RouteSet m) = refl
keys_cross_back (AutNum n) (Mntner m) = refl
keys_cross_back (AutNum n) (AsBlock t) = refl
keys_cross_back (AutNum n) (AutNum m) = refl
keys_cross_back (AutNum n) (Inetnum t) = refl
keys_cross_back (AutNum n) (Route p m) = refl
keys_cross_back (AutNum n) (AsSet m) = refl
keys_cross_back (AutNum n) (RouteSet m) = refl
keys_cross_back (Inetnum s) (Mntner m) = refl
keys_cross_back (Inetnum s) (AsBlock t) = refl
keys_cross_back (Inetnum s) (AutNum m) = refl
keys_cross_back (Inetnum s) (Route p m) = refl
keys_cross_back (Inetnum s) (AsSet m) = refl
keys_cross_back (Inetnum s) (RouteSet m) = refl
keys_cross_back (Route p n) (Mntner m) = refl
keys_cross_back (Route p n) (AsBlock t) = refl
keys_cross_back (Route p n) (AutNum m) = refl
keys_cross_back (Route p n) (Inetnum t) = refl
keys_cross_back (Route p n) (Route q m) = refl
keys_cross_back (Route p n) (AsSet m) = refl
keys_cross_back (Route p n) (RouteSet m) = refl
keys_cross_back (AsSet n) (Mntner m) = refl
keys_cross_back (AsSet n) (AsBlock t) = refl
keys_cross_back (AsSet n) (AutNum m) = refl
keys_cross_back (AsSet n) (Inetnum t) = refl
keys_cross_back (AsSet n) (Route p m) = refl
keys_cross_back (AsSet n) (AsSet m) = refl
keys_cross_back (AsSet n) (RouteSet m) = refl
keys_cross_back (RouteSet n) (Mntner m) = refl
keys_cross_back (RouteSet n) (AsBlock t) = refl
keys_cross_back (RouteSet n) (AutNum m) = refl
keys_cross_back (RouteSet n) (Inetnum t) = refl
keys_cross_back (RouteSet n) (Route p m) = refl
keys_cross_back (RouteSet n) (AsSet m) = refl
keys_cross_back (RouteSet n) (RouteSet m) = refl

pub crosses_itself : (k : Key) → keys_cross k k ≡ false
crosses_itself (Mntner n) = refl
crosses_itself (AsBlock s) = no_self_cross s
crosses_itself (AutNum n) = refl
crosses_itself (Inetnum s) = no_self_cross s
crosses_itself (Route p n) = refl
crosses_itself (AsSet n) = refl
crosses_itself (RouteSet n) = refl
