-- That a dump is in full where its flag is named.
use Rattle.std.proofs.Common.{◌≡◌, ◌∙◌, Bool, cond, codes, true, false, true≢false, refl, sym, ap}
use Rattle.std.proofs.Common.{List, [], ◌∷◌, Option, Some, None}
use Rattle.std.specs.Prelude.{ℕ, is_some, unwrap_or}
use Rattle.std.specs.Option.{option_map_or}
use Rattle.std.specs.Str.{bytes_eq}
use Rattle.clap.specs.Kinds.{Kinds}
use Rattle.clap.specs.Walk.{Row, Text, all_of, first_of}
use Rattle.rr_arguments.specs.Numbers.{number_within}
use Rattle.rr_arguments.specs.CommandLine.{Invocation, invoked, invoked_over, invoked_unless}
use Rattle.rr_arguments.specs.CommandLine.{asks_help, asks_query, dump, flag_of, given, helped}
use Rattle.rr_arguments.specs.CommandLine.{joined, line_command, line_kinds, load, migrate, parsed}
use Rattle.rr_arguments.specs.CommandLine.{parsed_or_helped, probe, query, serve, spelled, bad_port}
use Rattle.rr_arguments.specs.CommandLine.{bad_count, submit, init, nothing, invoked_port}
use Rattle.rr_arguments.specs.CommandLine.{invoked_count}
use Rattle.rr_arguments.specs.Flags.{names_full}
use Rattle.rr_arguments.proofs.Flags.{dump_full}
use Rattle.rr_arguments.proofs.Stops.{stop_second}

-- whether a dump is in full, where one is asked for
abbrev full_of : Invocation → Option Bool
full_of (dump settings full) = Some full
full_of _ = None

never : {X : Type 0} (b : Bool) → None ≡ Some b → X
never b e = absurd (true≢false (sym (ap is_some e)))

none_given : (place : Text) (made : Text → Invocation) (rows : List Row) →
    ((text : Text) → full_of (made text) ≡ None) → full_of (given place made rows) ≡ None
none_given place made rows none = go (first_of place rows)
  where
    go : (o : Option Text) → full_of (option_map_or made o nothing) ≡ None
    go None = refl
    go (Some text) = none text

none_spelled : (greatest : ℕ) (bad : Text → Invocation) (made : ℕ → Invocation) (text : Text) →
    full_of (bad text) ≡ None
    → ((n : ℕ) → full_of (made n) ≡ None) → full_of (spelled greatest bad made text) ≡ None
none_spelled greatest bad made text other none = go (number_within text greatest)
  where
    go : (o : Option ℕ) → full_of (option_map_or made o (bad text)) ≡ None
    go None = other
    go (Some n) = none n

over : (name : Text) (rows : List Row) (settings : Text) (full : Bool) →
    full_of (invoked_over name rows settings) ≡ Some full → (bytes_eq name (codes "dump") ≡ true)
    × (flag_of (codes "full") rows ≡ full)
over name rows settings full = go (bytes_eq name (codes "init")) (bytes_eq name (codes "submit"))
    (bytes_eq name (codes "query")) (bytes_eq name (codes "dump")) refl
    (bytes_eq name (codes "load"))
    (bytes_eq name (codes "migrate")) (bytes_eq name (codes "serve"))
    (bytes_eq name (codes "probe"))
  where
    file : (made : Text → Text → Invocation) →
        ((text : Text) → full_of (made settings text) ≡ None) →
        full_of (given (codes "FILE") (made settings) rows) ≡ None
    file made none = none_given (codes "FILE") (made settings) rows none

    served : full_of (invoked_port (λ port. invoked_count (serve settings port) rows) rows) ≡ None
    served = none_given (codes "PORT") _ rows (λ text. none_spelled 65535 bad_port _ text refl
        (λ port. none_given (codes "N") _ rows (λ other. none_spelled 1000000 bad_count
        (serve settings port) other refl (λ n. refl))))

    go : (i s q d : Bool) → bytes_eq name (codes "dump") ≡ d → (l m v p : Bool)
        →
        full_of (cond i (init settings) (cond s (given (codes "FILE") (submit settings) rows)
        (cond q (query settings (joined (unwrap_or (all_of (codes "WORD") rows) [])))
        (cond d (dump settings (flag_of (codes "full") rows))
        (cond l (given (codes "FILE") (load settings) rows) (cond m (migrate settings)
        (cond v (invoked_port (λ port. invoked_count (serve settings port) rows) rows)
        (cond p (probe settings) nothing)))))))) ≡ Some full
        → (bytes_eq name (codes "dump") ≡ true) × (flag_of (codes "full") rows ≡ full)
    go true s q d is l m v p e = never full e
    go false true q d is l m v p e = never full (sym (file submit (λ text. refl)) ∙ e)
    go false false true d is l m v p e = never full e
    go false false false true is l m v p e = (is, ap (λ (o : Option Bool). unwrap_or o full) e)
    go false false false false is true m v p e = never full (sym (file load (λ text. refl)) ∙ e)
    go false false false false is false true v p e = never full e
    go false false false false is false false true p e = never full (sym served ∙ e)
    go false false false false is false false false true e = never full e
    go false false false false is false false false false e = never full e

abbrev IsNamed : List Text → Bool → Type 0
IsNamed words full = (first word : Text) × (rest : List Text) × (words ≡ first ∷ word ∷ rest)
    × (full ≡ names_full rest)

parsed_named : (words : List Text) (full : Bool) → full_of (parsed words) ≡ Some full →
    IsNamed words full
parsed_named words full e = go (line_kinds words) (line_command words) refl refl e
  where
    found : (name : Text) (rows : List Row) (o : Option Text) → line_kinds words ≡ [] →
        line_command words ≡ Some (name, rows) →
        full_of (option_map_or (invoked_over name rows) o nothing) ≡ Some full → IsNamed words full
    found name rows None none at h = never full h
    found name rows (Some settings) none at h =
        let is = over name rows settings full h in
        let read = dump_full words name rows at is.0 in
        let second = stop_second words read.0 read.1 none read.2 in
        (second.0, read.0, read.1, second.1, sym is.1 ∙ read.3)

    go : (kinds : Kinds) (stop : Option (Text × List Row)) → line_kinds words ≡ kinds →
        line_command words ≡ stop → full_of (invoked_unless kinds stop) ≡ Some full →
        IsNamed words full
    go (k ∷ ks) stop none at h = never full h
    go [] None none at h = never full h
    go [] (Some p) none at h = found p.0 p.1 (first_of (codes "SETTINGS") p.1) none at h

none_helped : (first name : Text) → full_of (helped first name) ≡ None
none_helped first name = go (line_kinds (first ∷ name ∷ codes "--help" ∷ []))
  where
    go : (kinds : Kinds) → full_of (invoked_unless kinds None) ≡ None
    go [] = refl
    go (k ∷ ks) = refl

ruled_named : (words : List Text) (full : Bool) → full_of (parsed_or_helped words) ≡ Some full →
    IsNamed words full
ruled_named [] full e = parsed_named [] full e
ruled_named (a ∷ []) full e = parsed_named (a ∷ []) full e
ruled_named (a ∷ b ∷ []) full e = parsed_named (a ∷ b ∷ []) full e
ruled_named (a ∷ b ∷ c ∷ []) full e = go (asks_help b c) e
  where
    go : (h : Bool) → full_of (cond h (helped a c) (parsed (a ∷ b ∷ c ∷ []))) ≡ Some full →
        IsNamed (a ∷ b ∷ c ∷ []) full
    go true is = never full (sym (none_helped a c) ∙ is)
    go false is = parsed_named (a ∷ b ∷ c ∷ []) full is
ruled_named (a ∷ b ∷ c ∷ d ∷ words) full e = parsed_named (a ∷ b ∷ c ∷ d ∷ words) full e

line_named : (words : List Text) (full : Bool) → full_of (invoked words) ≡ Some full →
    IsNamed words full
line_named [] full e = never full e
line_named (a ∷ []) full e = never full e
line_named (a ∷ b ∷ []) full e = ruled_named (a ∷ b ∷ []) full e
line_named (a ∷ b ∷ c ∷ []) full e = ruled_named (a ∷ b ∷ c ∷ []) full e
line_named (a ∷ b ∷ c ∷ d ∷ words) full e = go (asks_query b c) e
  where
    go : (q : Bool) →
        full_of (cond q (query c (joined (d ∷ words))) (parsed_or_helped (a ∷ b ∷ c ∷ d ∷ words)))
        ≡ Some full → IsNamed (a ∷ b ∷ c ∷ d ∷ words) full
    go true is = never full is
    go false is = ruled_named (a ∷ b ∷ c ∷ d ∷ words) full is

pub full_named : (words : List Text) (settings : Text) (full : Bool) → invoked words
    ≡ dump settings full → IsNamed words full
full_named words settings full e = line_named words full (ap full_of e)
