-- The interpreted attributes, and how often each stands in an object of each class: for the reading
-- of objects, and of names in rows of `rr_store`.
use Rattle.std.specs.Prelude.{ℕ, Bool, true, false, List, codes}
use Rattle.rr_object.specs.declared.class.Class.{Class}
use Rattle.rr_object.specs.declared.class.Class.TheVariants.{Mntner, AsBlock, AutNum, Inetnum}
use Rattle.rr_object.specs.declared.class.Class.TheVariants.{Route, AsSet, RouteSet}
use Rattle.rr_object.specs.declared.kind.Kind.{Kind}
use Rattle.rr_object.specs.declared.kind.Kind.TheVariants.{MntBy, Source, Auth, MntLower, MntRoutes}
use Rattle.rr_object.specs.declared.kind.Kind.TheVariants.{Origin, MemberOf, Members, MbrsByRef}
use Rattle.rr_object.specs.declared.kind.Occurs.{Occurs}
use Rattle.rr_object.specs.declared.kind.Occurs.TheVariants.{Once, WithItems, Freely, AsText}

-- the name of an interpreted attribute (RFC 2622, 3 to 6; RFC 2725, 10)
abbrev pub kind_name : Kind → List ℕ
kind_name MntBy = codes "mnt-by"
kind_name Source = codes "source"
kind_name Auth = codes "auth"
kind_name MntLower = codes "mnt-lower"
kind_name MntRoutes = codes "mnt-routes"
kind_name Origin = codes "origin"
kind_name MemberOf = codes "member-of"
kind_name Members = codes "members"
kind_name MbrsByRef = codes "mbrs-by-ref"

-- how often an attribute stands in an object of a class: once, with at least one item over all
-- occurrences, freely; or it is kept as text there and not read (RFC 2622, 3 to 6; RFC 2725, 10;
-- profile)
unfoldable pub occurs : Kind → Class → Occurs
occurs MntBy class = WithItems
occurs Source class = Once
occurs Auth Mntner = WithItems
occurs Auth AsBlock = AsText
occurs Auth AutNum = AsText
occurs Auth Inetnum = AsText
occurs Auth Route = AsText
occurs Auth AsSet = AsText
occurs Auth RouteSet = AsText
occurs MntLower Mntner = AsText
occurs MntLower AsBlock = Freely
occurs MntLower AutNum = Freely
occurs MntLower Inetnum = Freely
occurs MntLower Route = Freely
occurs MntLower AsSet = Freely
occurs MntLower RouteSet = Freely
occurs MntRoutes Mntner = AsText
occurs MntRoutes AsBlock = AsText
occurs MntRoutes AutNum = Freely
occurs MntRoutes Inetnum = Freely
occurs MntRoutes Route = Freely
occurs MntRoutes AsSet = AsText
occurs MntRoutes RouteSet = AsText
occurs Origin Mntner = AsText
occurs Origin AsBlock = AsText
occurs Origin AutNum = AsText
occurs Origin Inetnum = AsText
occurs Origin Route = Once
occurs Origin AsSet = AsText
occurs Origin RouteSet = AsText
occurs MemberOf Mntner = AsText
occurs MemberOf AsBlock = AsText
occurs MemberOf AutNum = Freely
occurs MemberOf Inetnum = AsText
occurs MemberOf Route = Freely
occurs MemberOf AsSet = AsText
occurs MemberOf RouteSet = AsText
occurs Members Mntner = AsText
occurs Members AsBlock = AsText
occurs Members AutNum = AsText
occurs Members Inetnum = AsText
occurs Members Route = AsText
occurs Members AsSet = Freely
occurs Members RouteSet = Freely
occurs MbrsByRef Mntner = AsText
occurs MbrsByRef AsBlock = AsText
occurs MbrsByRef AutNum = AsText
occurs MbrsByRef Inetnum = AsText
occurs MbrsByRef Route = AsText
occurs MbrsByRef AsSet = Freely
occurs MbrsByRef RouteSet = Freely

-- an attribute that is not kept as text alone is read (profile)
abbrev pub is_read_as : Occurs → Bool
is_read_as Once = true
is_read_as WithItems = true
is_read_as Freely = true
is_read_as AsText = false

-- an attribute is interpreted in objects of a class (RFC 2622, 3 to 6; RFC 2725, 10)
abbrev pub is_read : Kind → Class → Bool
is_read kind class = is_read_as (occurs kind class)
