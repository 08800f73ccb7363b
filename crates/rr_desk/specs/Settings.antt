-- Settings: what a registry opens with, and how far expansions of sets go (profile): for `Settings`
-- and the desks made by them.
use Rattle.std.specs.Prelude.{◌≡◌, ℕ, ◌≤◌, true, ◌&&◌, nat_le, List, []}
use Rattle.std.specs.Prelude.{◌∷◌, length, codes}
use Rattle.std.specs.Prelude.{Option, Some, None, Result, Ok, Err, if◌then◌else◌}
use Rattle.std.specs.Option.{option_and_then}
use Rattle.hex.specs.Hex.{IsBytes}
use Rattle.rr_number.specs.Names.{IsUpperName, is_maintainer_name, maintainer_name_of, name_of}
use Rattle.rr_object.specs.Auths.{auth_item, is_salt}
use Rattle.rr_object.specs.Items.{meant_by}
use Rattle.rr_object.specs.Parts.{AuthParts}
use Rattle.rr_object.specs.declared.auth.TheConstants.{DIGEST_BYTES}
use Rattle.rr_desk.specs.declared.settings.TheConstants.{GREATEST_LIMIT}
use Rattle.rr_desk.specs.declared.settings.Setting.{Setting}
use Rattle.rr_desk.specs.declared.settings.Setting.TheVariants.{Source, Root, Auth, Limit}
use Rattle.rr_desk.specs.declared.settings.ValueFault.{ValueFault}
use Rattle.rr_desk.specs.declared.settings.ValueFault.TheVariants.{Bad}

-- the source of the registry, the name of its root maintainer, the salt and digest of the root's
-- secret, and the most names that an expansion may reach, and for a route-set the most pairs of a
-- set and a range (profile)
pub record SettingsParts : Type 0 where
  pub source : List ℕ
  pub root : List ℕ
  pub auth : AuthParts
  pub limit : ℕ

-- the settings that have these values (profile)
abbrev pub parts : List ℕ → List ℕ → AuthParts → ℕ → SettingsParts
parts source root auth limit =
    record { source = source; root = root; auth = auth; limit = limit }

-- a salt, and a digest of SHA-256 (FIPS 180-4; profile)
pub record IsSaltedDigest (auth : AuthParts) : Type 0 where
  pub salted : is_salt auth.salt ≡ true
  pub sized : length auth.digest ≡ DIGEST_BYTES
  pub bytes : IsBytes auth.digest

-- settings are good: the source is a name and the root a maintainer's, both in upper case, the
-- digest is one of SHA-256 with a salt, and the limit is 1 to the greatest (profile)
pub record IsSettings (settings : SettingsParts) : Type 0 where
  pub source : IsUpperName settings.source
  pub root : IsUpperName settings.root
  pub maintainer : is_maintainer_name settings.root ≡ true
  pub auth : IsSaltedDigest settings.auth
  pub some : 1 ≤ settings.limit
  pub bounded : settings.limit ≤ GREATEST_LIMIT

-- the salt and digest that a well-formed value of `auth` of the scheme `SHA256-PW` stands for; it
-- has no comment, and an LF is not a blank in it (profile)
abbrev pub auth_of : List ℕ → Option AuthParts
auth_of value = meant_by (auth_item value)

-- a limit within its bounds (profile)
abbrev pub limit_of : ℕ → Option ℕ
limit_of limit =
    if nat_le 1 limit && nat_le limit GREATEST_LIMIT then Some limit else None

-- what was found of a setting, or the fault that it is bad (profile)
abbrev pub or_bad : {X : Type 0} → Setting → Option X → Result X ValueFault
or_bad setting (Some value) = Ok value
or_bad setting None = Err (Bad setting)

-- the value of a setting; it is a fault that it is missing or bad (profile)
abbrev pub needed : {X Y : Type 0} → Setting → (X → Option Y) → Option X
    → Result Y ValueFault
needed setting read given = or_bad setting (option_and_then read given)

-- a fault goes before what comes after it (profile)
abbrev pub and_then : {X Y : Type 0} → Result X ValueFault → (X → Result Y ValueFault)
    → Result Y ValueFault
and_then (Ok value) next = next value
and_then (Err fault) next = Err fault

-- the settings that these values are, `None` being a missing one, or the first in this order that
-- is missing or bad (profile)
unfoldable pub settings_of : Option (List ℕ) → Option (List ℕ) → Option (List ℕ)
    → Option ℕ
    → Result SettingsParts ValueFault
settings_of source root auth limit =
    and_then (needed Source name_of source) (λ s.
    and_then (needed Root maintainer_name_of root) (λ r.
    and_then (needed Auth auth_of auth) (λ a.
    and_then (needed Limit limit_of limit) (λ l.
    Ok (record { source = s; root = r; auth = a; limit = l })))))

-- the digest of the secret `bc` with the salt `a`: that of `abc` (FIPS 180-4)
abbrev pub built_in_digest : List ℕ
built_in_digest =
    186 ∷ (120 ∷ (22 ∷ (191
    ∷ (143 ∷ (1 ∷ (207 ∷ (234 ∷ (65 ∷ (65 ∷ (64 ∷ (222 ∷ (93 ∷ (174 ∷ (
    34 ∷ (35 ∷ (176 ∷ (3
    ∷ (97 ∷ (163 ∷ (150 ∷ (23 ∷ (122 ∷ (156 ∷ (180 ∷ (16 ∷ (255 ∷ (97 ∷ (
    242 ∷ (0 ∷ (21 ∷ (173 ∷ [])))))))))))))))))))))))))))))))

-- the settings of the program without arguments: the source `TEST`, the root `ROOT-MNT`, whose
-- secret is `bc`, and the limit 10,000 (profile)
abbrev pub built_in : SettingsParts
built_in = record {
  source = codes "TEST";
  root = codes "ROOT-MNT";
  auth = record { salt = codes "a"; digest = built_in_digest };
  limit = 10000;
}
