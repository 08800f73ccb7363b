-- Which texts a line shows as they are, for `shown_name` and the faults that show names (profile).
use Rattle.std.specs.Prelude.{ℕ, ◌==◌, ◌&&◌, nat_lt, Bool, false, not, List, length}
use Rattle.std.specs.Prelude.{if◌then◌else◌}
use Rattle.std.specs.List.{list_all}
use Rattle.rr_commands.specs.declared.shown.TheConstants.{MOST_OF_NAME}

-- a space, or a byte of a character of ASCII that is seen, save the backslash (profile)
abbrev pub stands_for_itself : ℕ → Bool
stands_for_itself b = not (nat_lt b 32) && (nat_lt b 127 && not (b == 92))

-- a line shows a text as it is: one of at most 4,096 bytes that all stand for themselves (profile)
abbrev pub needs_no_escape : List ℕ → Bool
needs_no_escape text =
    if nat_lt MOST_OF_NAME (length text) then false else list_all stands_for_itself text
