-- Lemmas on texts that are no settings.
use Rattle.std.proofs.Common.{◌≡◌, ◌≢◌, ℕ, List, Err}
use Rattle.rr_commands.specs.SettingsFiles.{AreNoSettings, IsToldOf, settings_of_text}
use Rattle.rr_commands.specs.declared.settings_file.SettingsFault.{SettingsFault}
use Rattle.rr_commands.specs.declared.settings_file.SettingsFault.TheVariants.{BadKey, BadToml}
use Rattle.rr_commands.specs.declared.settings_file.SettingsFault.TheVariants.{Memory}
use Rattle.rr_commands.specs.declared.trouble.Trouble.{Trouble}
use Rattle.rr_commands.specs.declared.trouble.Trouble.TheVariants as trouble

-- what is told of a text by its fault is why its bytes are no settings
pub told_of_text : (bytes : List ℕ) (fault : SettingsFault) (told : Trouble) → IsToldOf fault told
    → (fault ≢ Memory → settings_of_text bytes ≡ Err fault) → AreNoSettings bytes told
told_of_text bytes BadToml (trouble.SettingsNotToml line) is why = why (λ same. cc)
told_of_text bytes (BadKey key) (trouble.SettingBad told) is why = rw is (why (λ same. cc))
told_of_text bytes Memory trouble.Memory is why = tt
told_of_text bytes _ _ is why = absurd is
