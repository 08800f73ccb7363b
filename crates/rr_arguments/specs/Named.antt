-- A law of command lines: which dumps are asked for in full (profile).
use Rattle.std.specs.Prelude.{◌≡◌, Bool, List, ◌∷◌}
use Rattle.clap.specs.Walk.{Text}
use Rattle.rr_arguments.specs.CommandLine.{invoked, dump}
use Rattle.rr_arguments.specs.Flags.{names_full}

-- where words ask for a dump, there are two at least: the program's name and the command. They ask
-- for it in full exactly if `--full` is among the words after these, before any word `--` (profile)
abbrev pub FullIsNamed : Type 0
FullIsNamed = (words : List Text) (settings : Text) (full : Bool)
    → invoked words ≡ dump settings full
    → (first word : Text) × (rest : List Text) × (words ≡ first ∷ word ∷ rest)
    × (full ≡ names_full rest)
