-- What was read of a paragraph, and the object that it is: for private functions of `object` and of
-- `object_reading`.
use Rattle.std.specs.Prelude.{◌≡◌, List, Some}
use Rattle.rr_text.specs.Fields.{Field}
use Rattle.rr_object.specs.declared.class.Class.{Class}
use Rattle.rr_object.specs.declared.key.Key.{Key}
use Rattle.rr_object.specs.declared.kind.Kind.TheVariants.{MntBy, Auth, MntLower, MntRoutes}
use Rattle.rr_object.specs.declared.kind.Kind.TheVariants.{MemberOf, Members, MbrsByRef}
use Rattle.rr_object.specs.declared.object_reading.Authority.{Authority}
use Rattle.rr_object.specs.declared.object_reading.Membership.{Membership}
use Rattle.rr_object.specs.Auths.{auth_item}
use Rattle.rr_object.specs.Grants.{grants_of}
use Rattle.rr_object.specs.Items.{meant}
use Rattle.rr_object.specs.Members.{set_item}
use Rattle.rr_object.specs.Objects.{Obj}
use Rattle.rr_object.specs.Readings.{by_ref_of, items_read, maintainers_of, member_item}

-- this is what an object of the class with these attributes says of whose secrets decide, and its
-- entries of `mnt-routes` are good (RFC 2622, 3; RFC 2725, 10)
pub record IsAuthorityOf (class : Class) (fields : List Field) (said : Authority) : Type 0 where
  pub maintainers : said.maintainers.items ≡ maintainers_of MntBy class fields
  pub lower : said.lower.items ≡ maintainers_of MntLower class fields
  pub routes : grants_of (items_read MntRoutes class fields) ≡ Some said.routes.items
  pub auths : said.auths.items ≡ meant auth_item (items_read Auth class fields)

-- this is what an object of the class with these attributes says of sets (RFC 2622, 5)
pub record IsMembershipOf (class : Class) (fields : List Field) (said : Membership) : Type 0 where
  pub members : said.members.items ≡ meant (member_item class) (items_read Members class fields)
  pub by_ref : said.by_ref ≡ by_ref_of (items_read MbrsByRef class fields)
  pub member_of : said.member_of.items ≡ meant set_item (items_read MemberOf class fields)

-- an object that says this of authority and of sets
abbrev pub said : Key → List Field → Authority → Membership → Obj
said key paragraph authority membership = record {
  key = key;
  paragraph = paragraph;
  maintainers = authority.maintainers.items;
  lower = authority.lower.items;
  routes = authority.routes.items;
  auths = authority.auths.items;
  members = membership.members.items;
  by_ref = membership.by_ref;
  member_of = membership.member_of.items;
}
