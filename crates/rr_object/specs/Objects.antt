-- Objects as plain data: contracts see them so.
use Rattle.std.specs.Prelude.{ℕ, Bool, List, ◌++◌, map}
use Rattle.std.specs.List.{list_any}
use Rattle.std.specs.Str.{bytes_eq}
use Rattle.std.proofs.Common.{Bor}
use Rattle.rr_text.specs.Fields.{Field}
use Rattle.rr_object.specs.declared.key.Key.{Key}
use Rattle.rr_object.specs.declared.member.Member.{Member}
use Rattle.rr_object.specs.Parts.{GrantParts, AuthParts, ByRefParts}

-- an object: its key, its paragraph, and what the interpreted attributes of it say (RFC 2622, 2 to
-- 6; RFC 2725, 10)
pub record Obj : Type 0 where
  pub key : Key
  pub paragraph : List Field
  pub maintainers : List (List ℕ)
  pub lower : List (List ℕ)
  pub routes : List GrantParts
  pub auths : List AuthParts
  pub members : List Member
  pub by_ref : ByRefParts
  pub member_of : List (List ℕ)

-- the maintainers that an object names in `mnt-by`, `mnt-lower`, `mnt-routes` and `mbrs-by-ref`,
-- without `ANY` (profile)
abbrev pub names_of : Obj → List (List ℕ)
names_of object =
    ((object.maintainers ++ object.lower) ++ map (λ grant. grant.name) object.routes)
    ++ object.by_ref.names

-- an object names a maintainer in `mnt-by`, `mnt-lower`, `mnt-routes` or `mbrs-by-ref` (profile)
abbrev pub object_names : List ℕ → Obj → Bool
object_names name object = list_any (λ n. bytes_eq n name) (names_of object)

-- the objects to which references point, in their order
abbrev pub lent : List (Bor Obj) → List Obj
lent objects = map (λ object. object.now) objects
