-- What the arguments of the command line may be, as a parse reads it (profile).
use Rattle.std.specs.Prelude.{◌≡◌, [], ◌∷◌, Some, true, false, codes}
use Rattle.clap.specs.Lexer.{usize_max}
use Rattle.clap.specs.Simple.{App, Shape, app_of, new_app, new_rule, new_shape, with_rule}
use Rattle.clap.specs.Walk.{Rule, Text, rule_of}
use Rattle.clap.specs.declared.builder.action.ArgAction.TheVariants.{Set, SetTrue}
use Rattle.clap.specs.declared.builder.arg.Arg.{Arg}
use Rattle.clap.specs.declared.builder.command.Command.{Command}
use Rattle.clap.specs.declared.builder.command.Command.TheViews.{out-Command}

-- an argument that a command needs, by its place (profile)
abbrev pub needed_rule : Text → Rule
needed_rule id = record (new_rule id) { required = true; action = Some Set }

-- one that it needs, after an option of this name (profile)
abbrev pub option_rule : Text → Text → Rule
option_rule id name = record (needed_rule id) { long = Some name; value_names = 1 }

-- the words of a query: one or more (profile)
abbrev pub words_rule : Rule
words_rule = record (needed_rule (codes "WORD")) {
  range = Some (record { start_inclusive = 1; end_inclusive = usize_max });
}

-- `--full`, which stands without a value (profile)
abbrev pub full_rule : Rule
full_rule = record (new_rule (codes "full")) {
  long = Some (codes "full");
  action = Some SetTrue;
}

-- a command that needs the file of its settings (profile)
abbrev pub over_settings : Text → App
over_settings name = with_rule (new_app name) (needed_rule (codes "SETTINGS"))

-- a command that needs the file of its settings and another file (profile)
abbrev pub over_file : Text → App
over_file name = with_rule (over_settings name) (needed_rule (codes "FILE"))

-- the command of a query, which needs its words also (profile)
abbrev pub query_app : App
query_app = with_rule (over_settings (codes "query")) words_rule

-- the command of a dump, which may be in full (profile)
abbrev pub dump_app : App
dump_app = with_rule (over_settings (codes "dump")) full_rule

-- the command that serves, which needs a port and a count after their options (profile)
abbrev pub serve_app : App
serve_app =
    with_rule
    (with_rule (over_settings (codes "serve")) (option_rule (codes "PORT") (codes "port")))
    (option_rule (codes "N") (codes "count"))

-- the program without its commands, of which it needs one (profile)
abbrev pub program_shape : Shape
program_shape = record (new_shape (codes "irrdesk")) {
  has_version = true;
  subcommand_required = true;
}

-- the program before its commands are added (profile)
abbrev pub bare_app : App
bare_app = record { top = program_shape; subs = [] }

-- the program, with its commands (profile)
abbrev pub program_app : App
program_app = record {
  top = record program_shape { is_leaf = false };
  subs = (over_settings (codes "init")).top ∷ (over_file (codes "submit")).top ∷ query_app.top
      ∷ serve_app.top ∷ dump_app.top ∷ (over_file (codes "load")).top
      ∷ (over_settings (codes "migrate")).top ∷ (over_settings (codes "probe")).top ∷ [];
}

-- an argument that is made reads by a rule, and is not global (profile)
abbrev pub IsArg : Rule → Arg → Type 0
IsArg rule arg = (rule_of arg ≡ rule) × (arg.global ≡ false)

-- a command that is made reads by the rules of a definition, and has no global argument (profile)
abbrev pub ParsesAs : App → Command → Type 0
ParsesAs app command = (app_of command ≡ app) × ((out-Command command).has_globals ≡ false)
