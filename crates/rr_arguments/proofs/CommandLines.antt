-- What a line asks for, by the facts of its parse.
use Rattle.std.proofs.Common.{◌≡◌, ◌∙◌, ◌++◌, ◌||◌, ◌&&◌, ◌⊎◌, ◌<◌, ◌≤◌, ◌-◌, arith, zero, suc}
use Rattle.std.proofs.Common.{length, nat_lt, lt-ltb, slice_index_or, ℕ, Bool, refl, sym, ap, ap₂}
use Rattle.std.proofs.Common.{subst, codes, true, false, true≢false, IsTrue, List, [], ◌∷◌, map}
use Rattle.std.proofs.Common.{Option, Some, None, Result, Ok, Err, inl, inr}
use Rattle.std.specs.Prelude.{option_map, unwrap_or, is_some, Box}
use Rattle.std.specs.Box.{box_value}
use Rattle.std.specs.Borrow.{Bor}
use Rattle.std.specs.List.{join_by, list_any, flat_map}
use Rattle.std.specs.Option.{option_map_or}
use Rattle.clap.specs.Faults.{fault_of, is_simple_and_free}
use Rattle.clap.specs.Kinds.{HasKind, IsAmong, Kinds}
use Rattle.clap.specs.Simple.{App, is_simple, subcommand_of, subcommand_rows, subcommand_rows_of}
use Rattle.clap.specs.Matches.{subcommand_name_of}
use Rattle.clap.specs.declared.parser.matches.ArgMatches.{ArgMatches}
use Rattle.clap.specs.declared.parser.matches.ArgMatches.TheViews.{out-ArgMatches, out-SubCommand}
use Rattle.clap.specs.declared.parser.matches.SubCommand.{SubCommand}
use Rattle.clap.specs.Walk.{Row, Text}
use Rattle.clap.specs.declared.error.Error.{Error}
use Rattle.clap.specs.declared.error.kind.ErrorKind.{ErrorKind}
use Rattle.clap.specs.declared.error.kind.ErrorKind.TheVariants.{OutOfMemory}
use Rattle.clap.proofs.OnLiterals.{clap_on_literals}
use Rattle.rr_arguments.specs.CommandLine.{IsToldAs, Invocation, IsFlag, GivesInvoked, invoked_by}
use Rattle.rr_arguments.specs.CommandLine.{invoked, asks_help, asks_query, parsed_or_helped}
use Rattle.rr_arguments.specs.CommandLine.{invoked_unless, nothing, parsed, is_refusal, is_shown}
use Rattle.rr_arguments.specs.CommandLine.{joined, line_command, line_kinds, told}
use Rattle.rr_arguments.specs.Grammar.{program_app}
use Rattle.rr_arguments.specs.declared.command.Command.{Command}
use Rattle.rr_arguments.specs.declared.command.Command.TheVariants as command
use Rattle.rr_arguments.specs.declared.arguments_fault.ArgumentsFault.{ArgumentsFault}
use Rattle.rr_arguments.specs.declared.arguments_fault.ArgumentsFault.TheVariants as fault

-- ---- words

flat_of_map : {X : Type 0} (f : X → Text) (sep : Text) (xs : List X) → flat_map (λ y. sep ++ y)
    (map f xs) ≡ flat_map (λ y. sep ++ f y) xs
flat_of_map f sep [] = refl
flat_of_map f sep (x ∷ xs) = ap (λ t. (sep ++ f x) ++ t) (flat_of_map f sep xs)

pub joined_texts : {X : Type 0} (f : X → Text) (xs : List X) → joined (map f xs) ≡ join_by f
    (codes " ") xs
joined_texts f [] = refl
joined_texts f (x ∷ xs) = ap (λ t. f x ++ t) (flat_of_map f (codes " ") xs)

some_same : {X : Type 0} {x y : X} → Some x ≡ Some y → x ≡ y
some_same {X} {x} {y} e = ap (λ o. unwrap_or o x) e

-- ---- flags

pub flag_is : (text : Option Text) (flag : Bool) → IsFlag text → (text ≡ None → flag ≡ false) →
    (text ≡ Some (codes "true") → flag ≡ true)
    → (text ≡ Some (codes "false") → flag ≡ false) →
    option_map_or (Rattle.std.specs.Str.bytes_eq (codes "true")) text false ≡ flag
flag_is text flag (inl e) none at_true at_false = rw (e, none e) refl
flag_is text flag (inr (inl e)) none at_true at_false = rw (e, at_true e) refl
flag_is text flag (inr (inr e)) none at_true at_false = rw (e, at_false e) refl

pub words_or : (given : Option (Bor (List (Bor Text)))) (fallback : Bor (List (Bor Text)))
    (texts : Option (List Text)) → option_map (λ s. map (λ v. v.now) s.now) given ≡ texts
    → map (λ v. v.now) fallback.now ≡ [] → unwrap_or texts [] ≡ map (λ v. v.now)
    (unwrap_or given fallback).now
words_or (Some s) fallback texts e none = rw (← e) refl
words_or None fallback texts e none = rw (← e, none) refl

-- ---- refusals

or_true : (b : Bool) → IsTrue (b || true)
or_true true = refl
or_true false = refl

among : (kind : ErrorKind) (kinds : Kinds) (is_so : ErrorKind → Bool) → IsAmong kind kinds →
    IsTrue (is_so kind) → IsTrue (list_any is_so kinds)
among kind [] is_so h t = absurd h
among kind (x ∷ xs) is_so (inl e) t = rw (← e, t) refl
among kind (x ∷ xs) is_so (inr h) t = rw (among kind xs is_so h t) (or_true (is_so x))

told_by : (kind : ErrorKind) (kinds : Kinds) (r : Result Command ArgumentsFault) →
    IsAmong kind kinds → IsToldAs kind r → GivesInvoked (told kinds) r
told_by kind kinds (Ok (command.Print text)) h a = (kinds, refl, among kind kinds is_shown h a)
told_by kind kinds (Ok command.Plain) h a = absurd a
told_by kind kinds (Ok (command.Init settings)) h a = absurd a
told_by kind kinds (Ok (command.Submit settings file)) h a = absurd a
told_by kind kinds (Ok (command.Query settings words)) h a = absurd a
told_by kind kinds (Ok (command.Dump settings full)) h a = absurd a
told_by kind kinds (Ok (command.Load settings file)) h a = absurd a
told_by kind kinds (Ok (command.Migrate settings)) h a = absurd a
told_by kind kinds (Ok (command.Serve settings port count)) h a = absurd a
told_by kind kinds (Ok (command.Probe settings)) h a = absurd a
told_by kind kinds (Err (fault.Refused line)) h a = (kinds, refl, among kind kinds is_refusal h a)
told_by kind kinds (Err fault.Unexplained) h a = absurd a
told_by kind kinds (Err (fault.Port word)) h a = absurd a
told_by kind kinds (Err (fault.Count word)) h a = absurd a
told_by kind kinds (Err fault.Memory) h a = tt

memory_by : (invocation : Invocation) (r : Result Command ArgumentsFault) → IsToldAs OutOfMemory r
    → GivesInvoked invocation r
memory_by invocation (Ok (command.Print text)) a = absurd (true≢false (sym a))
memory_by invocation (Ok command.Plain) a = absurd a
memory_by invocation (Ok (command.Init settings)) a = absurd a
memory_by invocation (Ok (command.Submit settings file)) a = absurd a
memory_by invocation (Ok (command.Query settings words)) a = absurd a
memory_by invocation (Ok (command.Dump settings full)) a = absurd a
memory_by invocation (Ok (command.Load settings file)) a = absurd a
memory_by invocation (Ok (command.Migrate settings)) a = absurd a
memory_by invocation (Ok (command.Serve settings port count)) a = absurd a
memory_by invocation (Ok (command.Probe settings)) a = absurd a
memory_by invocation (Err (fault.Refused line)) a = absurd (true≢false (sym a))
memory_by invocation (Err fault.Unexplained) a = absurd a
memory_by invocation (Err (fault.Port word)) a = absurd a
memory_by invocation (Err (fault.Count word)) a = absurd a
memory_by invocation (Err fault.Memory) a = tt

pub answered : (kind : ErrorKind) (kinds : Kinds) (stop : Option (Text × List Row))
    (r : Result Command ArgumentsFault)
    → (kind ≡ OutOfMemory) ⊎ IsAmong kind kinds → IsToldAs kind r →
    GivesInvoked (invoked_unless kinds stop) r
answered kind kinds stop r (inl e) a = memory_by (invoked_unless kinds stop) r
    (subst (λ k. IsToldAs k r) e a)
answered kind [] stop r (inr h) a = absurd h
answered kind (x ∷ xs) stop r (inr h) a = told_by kind (x ∷ xs) r h a

-- ---- the parse

free_program : is_simple_and_free program_app ≡ true
unfolding clap_on_literals
free_program = refl

simple_program : is_simple program_app ≡ true
unfolding clap_on_literals
simple_program = refl

pub kinds_at_ok : (app : App) (words texts : List Text) → app ≡ program_app → words ≡ texts →
    (is_simple_and_free app ≡ true → fault_of app words ≡ []) → line_kinds texts ≡ []
unfolding line_kinds
kinds_at_ok app words texts is same h = sym (ap₂ fault_of is same)
    ∙ h (ap is_simple_and_free is ∙ free_program)

pub kinds_at_err : (app : App) (words texts : List Text) (e : Error) → app ≡ program_app →
    words ≡ texts → (is_simple_and_free app ≡ true → HasKind (fault_of app words) e)
    → HasKind (line_kinds texts) e
unfolding line_kinds
kinds_at_err app words texts e is same h = subst (λ (kinds : Kinds). HasKind kinds e)
    (ap₂ fault_of is same) (h (ap is_simple_and_free is ∙ free_program))

pub command_at_ok : (app : App) (words texts : List Text) (found : Option (Text × List Row))
    {P : Type 0} → app ≡ program_app → words ≡ texts
    → (is_simple app ≡ true → P × (found ≡ subcommand_of app words)) → found ≡ line_command texts
unfolding line_command
command_at_ok app words texts found is same h = (h (ap is_simple is ∙ simple_program)).1
    ∙ ap₂ subcommand_of is same

rows_at_stop : {Z : Type 0} (o : Option (Box SubCommand Z)) (name : Text) (rows : List Row) →
    Some name ≡ option_map (λ b. (out-SubCommand (box_value b)).name.now) o
    → Some rows ≡ option_map (λ p. p.1) (subcommand_rows o) → subcommand_rows o ≡ Some (name, rows)
rows_at_stop None name rows e f = absurd (true≢false (ap is_some e))
rows_at_stop (Some b) name rows e f = ap₂ (λ (n : Text) (rs : List Row). Some (n, rs))
    (sym (some_same e)) (sym (some_same f))

pub stop_of : (m : ArgMatches) (name : Text) (rows : List Row) → Some name ≡ subcommand_name_of m →
    Some rows ≡ option_map (λ p. p.1) (subcommand_rows_of m)
    → subcommand_rows_of m ≡ Some (name, rows)
stop_of m name rows e f = rows_at_stop (out-ArgMatches m).subcommand name rows e f

pub nothing_parsed : (words : List Text) → line_kinds words ≡ [] → line_command words ≡ None →
    parsed words ≡ nothing
nothing_parsed words e f = ap₂ invoked_unless e f

pub reads_found : (words : List Text) (name : Text) (rows : List Row)
    (r : Result Command ArgumentsFault) → line_kinds words ≡ [] → line_command words
    ≡ Some (name, rows)
    → GivesInvoked (invoked_by name rows) r → GivesInvoked (parsed words) r
reads_found words name rows r e f h =
    subst (λ (invocation : Invocation). GivesInvoked invocation r) (sym (ap₂ invoked_unless e f)) h

-- ---- the forms of a line

pub parsed_if_short : (words : List Text) → length words < 3 → parsed_or_helped words ≡ parsed words
parsed_if_short [] h = refl
parsed_if_short (a ∷ []) h = refl
parsed_if_short (a ∷ b ∷ []) h = refl
parsed_if_short (a ∷ b ∷ c ∷ words) h = absurd (omega arith)

pub parsed_if_long : (words : List Text) → 3 < length words → parsed_or_helped words ≡ parsed words
parsed_if_long [] h = absurd (omega arith)
parsed_if_long (a ∷ []) h = absurd (omega arith)
parsed_if_long (a ∷ b ∷ []) h = absurd (omega arith)
parsed_if_long (a ∷ b ∷ c ∷ []) h = absurd (omega arith)
parsed_if_long (a ∷ b ∷ c ∷ d ∷ words) h = refl

pub parsed_if_no_help : (words : List Text) (word name : Text) → length words ≡ 3 →
    word ≡ slice_index_or words 1 word → name ≡ slice_index_or words 2 name →
    false ≡ asks_help word name
    → parsed_or_helped words ≡ parsed words
parsed_if_no_help [] word name n e f none = absurd (omega arith)
parsed_if_no_help (a ∷ []) word name n e f none = absurd (omega arith)
parsed_if_no_help (a ∷ b ∷ []) word name n e f none = absurd (omega arith)
parsed_if_no_help (a ∷ b ∷ c ∷ []) word name n e f none = rw (← e, ← f, ← none) refl
parsed_if_no_help (a ∷ b ∷ c ∷ d ∷ words) word name n e f none = absurd (omega arith)

pub ruled_if_short : (words : List Text) → 2 ≤ length words → length words < 3 → invoked words
    ≡ parsed_or_helped words
ruled_if_short [] l h = absurd (omega arith)
ruled_if_short (a ∷ []) l h = absurd (omega arith)
ruled_if_short (a ∷ b ∷ []) l h = refl
ruled_if_short (a ∷ b ∷ c ∷ words) l h = absurd (omega arith)

pub ruled_if_no_query : (words : List Text) (name settings : Text) → 3 ≤ length words →
    name ≡ slice_index_or words 1 name → settings ≡ slice_index_or words 2 settings
    → false ≡ (asks_query name settings && nat_lt 0 (length words - 3)) → invoked words
    ≡ parsed_or_helped words
ruled_if_no_query [] name settings n e f none = absurd (omega arith)
ruled_if_no_query (a ∷ []) name settings n e f none = absurd (omega arith)
ruled_if_no_query (a ∷ b ∷ []) name settings n e f none = absurd (omega arith)
ruled_if_no_query (a ∷ b ∷ c ∷ []) name settings n e f none = refl
ruled_if_no_query (a ∷ b ∷ c ∷ d ∷ words) name settings n e f none =
    let more : nat_lt 0 (length (a ∷ b ∷ c ∷ d ∷ words) - 3) ≡ true =
    lt-ltb 0 (length (a ∷ b ∷ c ∷ d ∷ words) - 3) (omega arith) in
    let other : asks_query name settings ≡ false = sym (and_true (asks_query name settings))
    ∙ ap (λ t. asks_query name settings && t) (sym more) ∙ sym none in
    rw (← e, ← f, other) refl
  where
    and_true : (b : Bool) → (b && true) ≡ b
    and_true true = refl
    and_true false = refl

pub text_at : {X : Type 0} (f : X → Text) (xs : List X) (i : ℕ) (x : X) (text : Text) →
    i < length xs → x ≡ slice_index_or xs i x → text ≡ f x → text ≡ slice_index_or (map f xs) i text
text_at f [] i x text l e g = absurd (omega arith)
text_at f (y ∷ ys) zero x text l e g = g ∙ ap f e
text_at f (y ∷ ys) (suc i) x text l e g = text_at f ys i x text (omega arith) e g
