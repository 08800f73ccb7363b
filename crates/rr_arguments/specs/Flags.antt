-- The flag of a dump among the words after the command (profile).
use Rattle.std.specs.Prelude.{Bool, false, List, [], ◌∷◌, codes, ◌||◌}
use Rattle.std.specs.Prelude.{if◌then◌else◌}
use Rattle.std.specs.Str.{bytes_eq}
use Rattle.clap.specs.Walk.{Text}

-- `--full` is among these words, before a word `--` after which none is an option (profile)
abbrev pub names_full : List Text → Bool
names_full [] = false
names_full (word ∷ words) =
    if bytes_eq word (codes "--") then false
    else (bytes_eq word (codes "--full") || names_full words)
