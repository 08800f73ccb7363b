-- What an object keeps, as plain data: how contracts see `Object`.
use Rattle.rr_object.specs.declared.object.Object.TheInside.{Inside}
use Rattle.rr_object.specs.Extras.{kept_extra}
use Rattle.rr_object.specs.Objects.{Obj}

-- the parts of what an object keeps
abbrev pub parts_of : Inside → Obj
parts_of o = record {
  key = o.kept.value.key;
  paragraph = o.kept.value.paragraph;
  maintainers = o.kept.value.maintainers.items;
  lower = (kept_extra o.kept.value.extra).lower;
  routes = (kept_extra o.kept.value.extra).routes;
  auths = (kept_extra o.kept.value.extra).auths;
  members = (kept_extra o.kept.value.extra).members;
  by_ref = (kept_extra o.kept.value.extra).by_ref;
  member_of = (kept_extra o.kept.value.extra).member_of;
}
