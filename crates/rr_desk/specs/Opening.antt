-- The objects that a registry opens with (profile): for `Desk::create`.
use Rattle.std.specs.Prelude.{◌≡◌, ℕ, List, [], ◌∷◌, ◌++◌, Ok, codes, map}
use Rattle.hex.specs.Hex.{encode_lower}
use Rattle.rr_text.specs.Fields.{Field, one_line}
use Rattle.rr_object.specs.Objects.{Obj}
use Rattle.rr_object.specs.Parts.{AuthParts}
use Rattle.rr_object.specs.Readings.{object_of}
use Rattle.rr_auth.specs.Registries.{Reg}
use Rattle.rr_registry.specs.Loading.{IsTaken}
use Rattle.rr_store.specs.Migrating.{upper_block}
use Rattle.rr_desk.specs.Settings.{SettingsParts}

-- the value of `auth` for a salt and digest: the scheme, a space, the salt, a colon, and the digest
-- in hexadecimal digits of lower case (profile)
abbrev pub auth_line : AuthParts → List ℕ
auth_line auth = codes "SHA256-PW " ++ (auth.salt ++ (58 ∷ encode_lower auth.digest))

-- the last two attributes of each opening paragraph: maintained by the root, of the settings'
-- source (profile)
abbrev pub owner_fields : SettingsParts → List Field
owner_fields settings =
    one_line (codes "mnt-by") settings.root ∷ (one_line (codes "source") settings.source ∷ [])

-- the paragraph of the root maintainer (profile)
abbrev pub root_fields : SettingsParts → List Field
root_fields settings =
    one_line (codes "mntner") settings.root
    ∷ (one_line (codes "auth") (auth_line settings.auth) ∷ owner_fields settings)

-- the paragraph of the block of all 16-bit AS numbers (profile)
abbrev pub numbers_fields : SettingsParts → List Field
numbers_fields settings =
    one_line (codes "as-block") (codes "AS0 - AS65535") ∷ owner_fields settings

-- the paragraph of the span of all addresses (profile)
abbrev pub addresses_fields : SettingsParts → List Field
addresses_fields settings =
    one_line (codes "inetnum") (codes "0.0.0.0 - 255.255.255.255") ∷ owner_fields settings

-- the paragraphs of the opening objects: the root maintainer, the two blocks of AS numbers, the
-- second of which migration adds too (RFC 6793), and the span of all addresses (profile)
abbrev pub opening_paragraphs : SettingsParts → List (List Field)
opening_paragraphs settings =
    root_fields settings
    ∷ (numbers_fields settings
    ∷ (upper_block settings.root settings.source ∷ (addresses_fields settings ∷ [])))

-- objects are those that the opening paragraphs are in a registry of the settings' source, in this
-- order (profile)
pub record AreOpening (settings : SettingsParts) (objects : List Obj) : Type 0 where
  pub read : map (λ fields. object_of fields settings.source) (opening_paragraphs settings)
      ≡ map Ok objects

-- a registry has the opening objects, and no others (profile)
pub record IsOpeningRegistry (settings : SettingsParts) (registry : Reg) : Type 0 where
  pub objects : List Obj
  pub are_opening : AreOpening settings objects
  pub taken : IsTaken objects registry
