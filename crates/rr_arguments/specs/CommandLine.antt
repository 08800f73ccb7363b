-- What the words of a command line ask for (profile).
use Rattle.std.specs.Prelude.{◌≡◌, ◌⊎◌, ◌&&◌, ℕ, Bool, true, false, not, List, [], ◌∷◌}
use Rattle.std.specs.Prelude.{Option, Some, None, Result, Ok, Err, IsTrue, if◌then◌else◌, codes}
use Rattle.std.specs.Prelude.{string_bytes, unwrap_or, ⊤}
use Rattle.std.specs.Prelude.{MatchResult, ◌==◌}
use Rattle.std.specs.List.{join_by, list_any}
use Rattle.std.specs.Option.{option_map_or}
use Rattle.std.specs.Str.{bytes_eq}
use Rattle.clap.specs.Walk.{Row, Text, all_of, first_of, one_of, stop_after}
use Rattle.clap.specs.Simple.{argument_words, built, names_of, subcommand_of}
use Rattle.clap.specs.Kinds.{Kinds}
use Rattle.clap.specs.Faults.{fault_of}
use Rattle.clap.specs.declared.error.kind.ErrorKind.{ErrorKind}
use Rattle.clap.specs.declared.error.kind.ErrorKind.TheVariants.{DisplayHelp, DisplayVersion}
use Rattle.clap.specs.declared.error.kind.ErrorKind.TheVariants.{OutOfMemory}
use Rattle.rr_arguments.specs.Grammar.{program_app}
use Rattle.rr_arguments.specs.Numbers.{number_within}
use Rattle.rr_arguments.specs.declared.command.Command.{Command}
use Rattle.rr_arguments.specs.declared.command.Command.TheVariants as command
use Rattle.rr_arguments.specs.declared.arguments_fault.ArgumentsFault.{ArgumentsFault}
use Rattle.rr_arguments.specs.declared.arguments_fault.ArgumentsFault.TheVariants as fault

-- what a command line asks for: a command, with its arguments as text, or nothing (profile). Or it
-- names what is no port or no count. Or it is answered with help, the version or a refusal, of one
-- of these kinds
pub data Invocation : Type 0 where
  plain : Invocation
  init : Text → Invocation
  submit : Text → Text → Invocation
  query : Text → Text → Invocation
  dump : Text → Bool → Invocation
  load : Text → Text → Invocation
  migrate : Text → Invocation
  serve : Text → ℕ → ℕ → Invocation
  probe : Text → Invocation
  bad_port : Text → Invocation
  bad_count : Text → Invocation
  told : Kinds → Invocation
  nothing : Invocation

-- words with one space between each two (profile)
abbrev pub joined : List Text → Text
joined words = join_by (λ word. word) (codes " ") words

-- ---- the arguments that a command got

-- what is made of the first argument of this place; nothing if there is none (profile)
abbrev pub given : Text → (Text → Invocation) → List Row → Invocation
given place made rows = option_map_or made (first_of place rows) nothing

-- what is made of the number that an argument spells, from 1 to the greatest, or of an argument
-- that spells none (profile)
abbrev pub spelled : ℕ → (Text → Invocation) → (ℕ → Invocation) → Text → Invocation
spelled greatest bad made text = option_map_or made (number_within text greatest) (bad text)

-- what is made of the port among the arguments, a number from 1 to 65,535: a bad port if it is no
-- such number, and nothing if none is given (profile)
abbrev pub invoked_port : (ℕ → Invocation) → List Row → Invocation
invoked_port made rows = given (codes "PORT") (spelled 65535 bad_port made) rows

-- what is made of the count among the arguments, a number from 1 to 1,000,000: a bad count if it is
-- no such number, and nothing if none is given (profile)
abbrev pub invoked_count : (ℕ → Invocation) → List Row → Invocation
invoked_count made rows = given (codes "N") (spelled 1000000 bad_count made) rows

-- a flag stands among the arguments: it was read as true (profile)
abbrev pub flag_of : Text → List Row → Bool
flag_of id rows = option_map_or (bytes_eq (codes "true")) (one_of id rows) false

-- a flag was read as true or false, or is no argument of the command (profile)
abbrev pub IsFlag : Option Text → Type 0
IsFlag text =
    (text ≡ None) ⊎ ((text ≡ Some (codes "true")) ⊎ (text ≡ Some (codes "false")))

-- what the command of this name asks for over these settings: nothing, if there is no such command,
-- or it lacks a file, a port or a count. A bad port is told before a bad or missing count. A query
-- without words has an empty text (profile)
abbrev pub invoked_over : Text → List Row → Text → Invocation
invoked_over name rows settings =
    if bytes_eq name (codes "init") then init settings
    else (if bytes_eq name (codes "submit") then given (codes "FILE") (submit settings) rows
    else (if bytes_eq name (codes "query")
    then query settings (joined (unwrap_or (all_of (codes "WORD") rows) []))
    else (if bytes_eq name (codes "dump") then dump settings (flag_of (codes "full") rows)
    else (if bytes_eq name (codes "load") then given (codes "FILE") (load settings) rows
    else (if bytes_eq name (codes "migrate") then migrate settings
    else (if bytes_eq name (codes "serve")
    then invoked_port (λ port. invoked_count (serve settings port) rows) rows
    else (if bytes_eq name (codes "probe") then probe settings else nothing)))))))

-- what the command of this name asks for, by its arguments; nothing without settings (profile)
abbrev pub invoked_by : Text → List Row → Invocation
invoked_by name rows = given (codes "SETTINGS") (invoked_over name rows) rows

-- ---- what is read of it

-- a parse that ends so is answered with help or the version (profile)
abbrev pub is_shown : ErrorKind → Bool
is_shown DisplayHelp = true
is_shown DisplayVersion = true
is_shown _ = false

-- a parse that ends so is a refusal, other than for want of memory (profile)
abbrev pub is_refusal : ErrorKind → Bool
is_refusal DisplayHelp = false
is_refusal DisplayVersion = false
is_refusal OutOfMemory = false
is_refusal _ = true

-- a command line is answered with help, the version or a refusal, one of whose kinds passes this
-- test (profile)
abbrev pub TellsKind : (ErrorKind → Bool) → Invocation → Type 0
TellsKind is_so invocation =
    (kinds : Kinds) × (invocation ≡ told kinds) × IsTrue (list_any is_so kinds)

-- the command is what is asked for; help and the version are some text (profile)
abbrev pub IsInvoked : Command → Invocation → Type 0
IsInvoked command.Plain invocation = invocation ≡ plain
IsInvoked (command.Init settings) invocation = invocation ≡ init settings.now
IsInvoked (command.Submit settings file) invocation = invocation ≡ submit settings.now file.now
IsInvoked (command.Query settings words) invocation =
    invocation ≡ query settings.now (string_bytes words)
IsInvoked (command.Dump settings full) invocation = invocation ≡ dump settings.now full
IsInvoked (command.Load settings file) invocation = invocation ≡ load settings.now file.now
IsInvoked (command.Migrate settings) invocation = invocation ≡ migrate settings.now
IsInvoked (command.Serve settings port count) invocation =
    invocation ≡ serve settings.now port count
IsInvoked (command.Probe settings) invocation = invocation ≡ probe settings.now
IsInvoked (command.Print text) invocation = TellsKind is_shown invocation

-- why a command line asks for no command: a parse refuses it, or gives nothing, or it names what is
-- no port or no count; memory may always run out (profile)
abbrev pub FailsToInvoke : ArgumentsFault → Invocation → Type 0
FailsToInvoke (fault.Refused line) invocation = TellsKind is_refusal invocation
FailsToInvoke fault.Unexplained invocation = invocation ≡ nothing
FailsToInvoke (fault.Port word) invocation = invocation ≡ bad_port word.now
FailsToInvoke (fault.Count word) invocation = invocation ≡ bad_count word.now
FailsToInvoke fault.Memory invocation = ⊤

-- a command line that asks for this is read as that command, or fails for a reason that fits
-- (profile)
abbrev pub GivesInvoked : Invocation → Result Command ArgumentsFault → Type 0
GivesInvoked invocation result = MatchResult result (λ command. IsInvoked command invocation)
    (λ fault. FailsToInvoke fault invocation)

-- a part of a command line is read: with it the line asks for what is made of it, or it fails for a
-- reason that fits (profile)
abbrev pub GivesPart : {T : Type 0} → ((T → Invocation) → Invocation) → Result T ArgumentsFault
    → Type 0
GivesPart {T} invocation result = (made : T → Invocation)
    → MatchResult result (λ part. invocation made ≡ made part)
    (λ fault. FailsToInvoke fault (invocation made))

-- what a parse that ends in help, the version or a refusal is read as: some text, or some line;
-- memory may always run out (profile)
abbrev pub IsToldAs : ErrorKind → Result Command ArgumentsFault → Type 0
IsToldAs kind (Ok (command.Print text)) = IsTrue (is_shown kind)
IsToldAs kind (Err (fault.Refused line)) = IsTrue (is_refusal kind)
IsToldAs kind (Err fault.Memory) = ⊤
IsToldAs kind _ = ⊥

-- ---- the whole line

-- what a parse asks for that finds a command, and nothing if it finds none (profile)
abbrev pub invoked_at : Option (Text × List Row) → Invocation
invoked_at stop = option_map_or (λ p. invoked_by p.0 p.1) stop nothing

-- what a parse asks for: help, the version or a refusal if it gives any, and else the command
-- (profile)
abbrev pub invoked_unless : Kinds → Option (Text × List Row) → Invocation
invoked_unless [] stop = invoked_at stop
invoked_unless (kind ∷ kinds) stop = told (kind ∷ kinds)

-- the kinds of refusal, of help or of version text of which a parse of the words gives one; no kind
-- if it gives none of these (profile)
unfoldable pub line_kinds : List Text → Kinds
line_kinds words = fault_of program_app words

-- the command that a parse of the words finds, with its arguments (profile)
unfoldable pub line_command : List Text → Option (Text × List Row)
line_command words = subcommand_of program_app words

-- the command that the words name, and the words after it (profile)
unfoldable pub line_stop : List Text → Option (Text × List Text)
line_stop words = stop_after (built program_app).top.rules (names_of (built program_app))
    (argument_words program_app words)

-- what the words ask for by the rules of command lines (profile)
abbrev pub parsed : List Text → Invocation
parsed words = invoked_unless (line_kinds words) (line_command words)

-- what a request for the help on a command asks for: what a parse of the command with `--help`
-- gives of help, the version or refusals, and else nothing (profile)
abbrev pub helped : Text → Text → Invocation
helped first name = invoked_unless (line_kinds (first ∷ name ∷ codes "--help" ∷ [])) None

-- the word `help` and a word after it, other than `help`, ask for the help on a command of that
-- name (profile)
abbrev pub asks_help : Text → Text → Bool
asks_help word name = bytes_eq word (codes "help") && not (bytes_eq name (codes "help"))

-- what a command line asks for that is no query with words after its settings. It is the help on a
-- command, if just two words follow the first and ask for that, and else what a parse finds
-- (profile)
abbrev pub parsed_or_helped : List Text → Invocation
parsed_or_helped (first ∷ word ∷ name ∷ []) =
    if asks_help word name then helped first name else parsed (first ∷ word ∷ name ∷ [])
parsed_or_helped words = parsed words

-- a word begins with a dash, as an option does
abbrev pub begins_with_dash : Text → Bool
begins_with_dash [] = false
begins_with_dash (byte ∷ bytes) = byte == 45

-- a command line is a query over settings, whose path begins with no dash (profile)
abbrev pub asks_query : Text → Text → Bool
asks_query name settings = bytes_eq name (codes "query") && not (begins_with_dash settings)

-- what a command line asks for, of which the first word is the program's name. No word, or that one
-- alone, is the plain command. If words follow the settings of a query, whose path begins with no
-- dash, all of them are its words. The rest is left to help and a parse (profile)
abbrev pub invoked : List Text → Invocation
invoked [] = plain
invoked (first ∷ []) = plain
invoked (first ∷ name ∷ settings ∷ word ∷ words) =
    if asks_query name settings then query settings (joined (word ∷ words))
    else parsed_or_helped (first ∷ name ∷ settings ∷ word ∷ words)
invoked words = parsed_or_helped words
