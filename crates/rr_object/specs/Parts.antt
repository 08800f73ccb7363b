-- The parts of objects as plain data: contracts see grants, lines of `auth` and what `mbrs-by-ref`
-- says so.
use Rattle.std.specs.Prelude.{ℕ, Bool, List}
use Rattle.rr_number.specs.Ranges.{RangeParts}
use Rattle.rr_object.specs.declared.member.Member.{Member}

-- an entry of `mnt-routes`: a maintainer, for each prefix or for those that a range admits
-- (RFC 2725, 10)
pub record GrantParts : Type 0 where
  pub name : List ℕ
  pub any : Bool
  pub ranges : List RangeParts

-- a salt, and the SHA-256 digest of the salt followed by a secret (profile)
pub record AuthParts : Type 0 where
  pub salt : List ℕ
  pub digest : List ℕ

-- whose objects may say that they belong to a set: anybody's, or those of these maintainers
-- (RFC 2622, 5)
pub record ByRefParts : Type 0 where
  pub any : Bool
  pub names : List (List ℕ)

-- what an object says beside its key, its paragraph and its `mnt-by` (RFC 2622, 2 to 6; RFC 2725,
-- 10)
pub record ExtraParts : Type 0 where
  pub lower : List (List ℕ)
  pub routes : List GrantParts
  pub auths : List AuthParts
  pub members : List Member
  pub by_ref : ByRefParts
  pub member_of : List (List ℕ)
