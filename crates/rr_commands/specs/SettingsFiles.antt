-- Settings as TOML, for the contracts of what reads them from a text or a file (profile).
use Rattle.std.specs.Prelude.{◌≡◌, ◌==◌, ◌<◌, ℕ, ℤ, pos, negsuc, List, length, Option}
use Rattle.std.specs.Prelude.{Some, None}
use Rattle.std.specs.Prelude.{Result, Ok, Err, codes, if◌then◌else◌}
use Rattle.std.specs.Option.{option_and_then}
use Rattle.std.specs.Str.{IsUtf8}
use Rattle.toml.specs.Data.{Members, as_integer, as_str, get_member}
use Rattle.toml.specs.Parse.{parse_document}
use Rattle.rr_desk.specs.Settings.{SettingsParts, settings_of}
use Rattle.rr_desk.specs.declared.settings.Setting.{Setting}
use Rattle.rr_desk.specs.declared.settings.Setting.TheVariants as setting
use Rattle.rr_desk.specs.declared.settings.ValueFault.{ValueFault}
use Rattle.rr_desk.specs.declared.settings.ValueFault.TheVariants as value
use Rattle.rr_commands.specs.declared.settings_file.SettingKey.{SettingKey}
use Rattle.rr_commands.specs.declared.settings_file.SettingKey.TheVariants as key
use Rattle.rr_commands.specs.declared.settings_file.SettingsFault.{SettingsFault}
use Rattle.rr_commands.specs.declared.settings_file.SettingsFault.TheVariants.{BadToml, BadKey}
use Rattle.rr_commands.specs.declared.settings_file.SettingsFault.TheVariants.{Memory}
use Rattle.rr_commands.specs.declared.settings_reading.TheConstants.{MOST_BYTES}
use Rattle.rr_commands.specs.declared.trouble.Trouble.{Trouble}
use Rattle.rr_commands.specs.declared.trouble.Trouble.TheVariants as trouble

-- the key of a setting (profile)
abbrev pub key_of : Setting → SettingKey
key_of setting.Source = key.Source
key_of setting.Root = key.Root
key_of setting.Auth = key.Auth
key_of setting.Limit = key.Limit

-- the text at a key of a table (TOML 1.1, Keys and String)
abbrev pub text_at : List ℕ → Members → Option (List ℕ)
text_at name table = option_and_then as_str (get_member name table)

-- the number, if it is not negative
abbrev pub non_negative : ℤ → Option ℕ
non_negative (pos n) = Some n
non_negative (negsuc n) = None

-- the integer at a key of a table (TOML 1.1, Integer)
abbrev pub integer_at : List ℕ → Members → Option ℤ
integer_at name table = option_and_then as_integer (get_member name table)

-- the integer at a key of a table, where it is not negative (profile)
abbrev pub number_at : List ℕ → Members → Option ℕ
number_at name table = option_and_then non_negative (integer_at name table)

-- why a table has no settings of a registry: by the setting that is missing or bad, or that memory
-- ran out (profile)
abbrev pub fault_of : ValueFault → SettingsFault
fault_of (value.Bad setting) = BadKey (key_of setting)
fault_of value.Memory = Memory

-- a value, or its fault as one of a settings file
abbrev pub with_fault : {X : Type 0} → Result X ValueFault → Result X SettingsFault
with_fault (Ok value) = Ok value
with_fault (Err fault) = Err (fault_of fault)

-- the settings of a registry that a table has, or the first that is missing or bad (profile)
abbrev pub parts_of : Members → Result SettingsParts SettingsFault
parts_of table = with_fault (settings_of
    (text_at (codes "source") table) (text_at (codes "root") table)
    (text_at (codes "auth") table) (number_at (codes "limit") table))

-- the path of a database, or that its key is missing or bad: it is not there, or is empty (profile)
abbrev pub path_of : Option (List ℕ) → Result (List ℕ) SettingsFault
path_of None = Err (BadKey key.Store)
path_of (Some path) = if length path == 0 then Err (BadKey key.Store) else Ok path

-- the path of the database that a table has, or that its key is missing or bad (profile)
abbrev pub store_of : Members → Result (List ℕ) SettingsFault
store_of table = path_of (text_at (codes "store") table)

-- a pair, or the first fault of its parts
abbrev pub both : {X Y : Type 0} →
    Result X SettingsFault → Result Y SettingsFault → Result (X × Y) SettingsFault
both (Err fault) other = Err fault
both (Ok value) (Err fault) = Err fault
both (Ok value) (Ok other) = Ok (value, other)

-- the settings and the path of the database that a table has, or the first key that is missing or
-- bad. Without a table the text was not TOML (profile)
abbrev pub settings_in : Option Members → Result (SettingsParts × List ℕ) SettingsFault
settings_in None = Err BadToml
settings_in (Some table) = both (parts_of table) (store_of table)

-- the settings and the path of the database that a text has, or why it has none (profile)
abbrev pub settings_of_text : List ℕ → Result (SettingsParts × List ℕ) SettingsFault
settings_of_text text = settings_in (parse_document text)

-- why the bytes of a file are no settings. They are more than 1,048,576, no text in UTF-8, or no
-- TOML; or this key is the first that is missing or bad; or memory ran out. No clause says which
-- line is told of a text that is no TOML (profile)
abbrev pub AreNoSettings : List ℕ → Trouble → Type 0
AreNoSettings bytes trouble.SettingsTooLong = MOST_BYTES < length bytes
AreNoSettings bytes trouble.SettingsNotText = ¬ (IsUtf8 bytes)
AreNoSettings bytes (trouble.SettingsNotToml line) = settings_of_text bytes ≡ Err BadToml
AreNoSettings bytes (trouble.SettingBad key) = settings_of_text bytes ≡ Err (BadKey key)
AreNoSettings bytes trouble.Memory = Unit {0}
AreNoSettings bytes _ = ⊥

-- what is told of a text that is no settings, by its fault: of one that is no TOML some line
-- (profile)
abbrev pub IsToldOf : SettingsFault → Trouble → Type 0
IsToldOf BadToml (trouble.SettingsNotToml line) = Unit {0}
IsToldOf (BadKey key) (trouble.SettingBad told) = told ≡ key
IsToldOf Memory trouble.Memory = Unit {0}
IsToldOf _ _ = ⊥
