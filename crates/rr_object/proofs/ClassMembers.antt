-- Which items the members of a set are, by the class of the set.
use Rattle.std.proofs.Common.{◌≡◌, refl}
use Rattle.rr_object.specs.declared.class.Class.{Class}
use Rattle.rr_object.specs.declared.class.Class.TheVariants.{Mntner, AsBlock, AutNum, Inetnum}
use Rattle.rr_object.specs.declared.class.Class.TheVariants.{Route, AsSet, RouteSet}
use Rattle.rr_object.specs.Members.{as_set_item, route_set_item}
use Rattle.rr_object.specs.Readings.{member_item}

pub as_set_members : (class : Class) → class ≡ AsSet → member_item class ≡ as_set_item
as_set_members Mntner e = cc
as_set_members AsBlock e = cc
as_set_members AutNum e = cc
as_set_members Inetnum e = cc
as_set_members Route e = cc
as_set_members AsSet e = refl
as_set_members RouteSet e = cc

pub other_members : (class : Class) → (class ≡ AsSet → ⊥) → member_item class ≡ route_set_item
other_members Mntner other = refl
other_members AsBlock other = refl
other_members AutNum other = refl
other_members Inetnum other = refl
other_members Route other = refl
other_members AsSet other = absurd (other refl)
other_members RouteSet other = refl
