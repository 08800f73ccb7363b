-- Whether `dump` has its flag.
use Rattle.std.proofs.Common.{◌≡◌, ◌∙◌, Bool, cond, true, false, true≢false, refl, sym, ap, subst}
use Rattle.std.proofs.Common.{codes, List, [], ◌∷◌, Option, Some, None, inl, inr}
use Rattle.std.specs.Prelude.{unwrap_or, is_some}
use Rattle.std.specs.List.{find}
use Rattle.std.specs.Option.{option_map, option_map_or}
use Rattle.std.specs.Str.{bytes_eq}
use Rattle.clap.specs.Walk.{answers_to, rows_after, Row, Rule, Text, one_of}
use Rattle.clap.specs.Simple.{App, Shape, built, entered, label_of, rows_at}
use Rattle.rr_arguments.specs.CommandLine.{IsFlag, flag_of, line_command, line_stop}
use Rattle.rr_arguments.specs.Flags.{names_full}
use Rattle.rr_arguments.specs.Grammar.{program_app}
use Rattle.rr_arguments.proofs.DumpWords.{full, rules, said, dump_rows}

-- ---- the subcommand

abbrev IsDump : Shape → Type 0
IsDump s = bytes_eq s.name (codes "dump") ≡ true → s.rules ≡ rules

abbrev Each : List Shape → Type 0
Each [] = Unit {0}
Each (s ∷ ss) = IsDump s × Each ss

found_dump : (test : Shape → Bool) (subs : List Shape) (s : Shape) → Each subs → find test subs
    ≡ Some s → IsDump s
found_dump test [] s each e = absurd (true≢false (sym (ap is_some e)))
found_dump test (x ∷ xs) s each e = go (test x) e (found_dump test xs s each.1)
  where
    go : (b : Bool) → cond b (Some x) (find test xs) ≡ Some s → (find test xs ≡ Some s → IsDump s)
        → IsDump s
    go true h more = subst IsDump (ap (λ (o : Option Shape). unwrap_or o x) h) each.0
    go false h more = more h

-- where a line stops, and what is read there
abbrev IsRead : Option (Text × List Text) → Text → List Row → Type 0
IsRead stop name rows = (word : Text) × (rest : List Text) × (stop ≡ Some (word, rest))
    × (bytes_eq name (codes "dump") ≡ true → rows ≡ rows_after rules [] rest)

read_at : (app : App) (stop : Option (Text × List Text)) (name : Text) (rows : List Row) →
    Each app.subs → entered app stop ≡ Some (name, rows) → IsRead stop name rows
read_at app None name rows each e = absurd (true≢false (sym (ap is_some e)))
read_at app (Some p) name rows each e =
    (p.0, p.1, refl, go (find (λ s. answers_to p.0 (label_of s)) app.subs) refl e)
  where
    go : (o : Option Shape) → find (λ s. answers_to p.0 (label_of s)) app.subs ≡ o →
        option_map (λ s. rows_at s p.1) o ≡ Some (name, rows)
        → bytes_eq name (codes "dump") ≡ true → rows ≡ rows_after rules [] p.1
    go None f h is = absurd (true≢false (sym (ap is_some h)))
    go (Some s) f h is =
        let pair : rows_at s p.1 ≡ (name, rows) = ap (λ (o : Option (Text × List Row)).
        unwrap_or o (rows_at s p.1)) h in
        let named : s.name ≡ name = ap (λ (q : Text × List Row). q.0) pair in
        let dumps : s.rules ≡ rules = found_dump (λ x. answers_to p.0 (label_of x)) app.subs s each
        f (subst (λ (t : Text). bytes_eq t (codes "dump") ≡ true) (sym named) is) in
        sym (ap (λ (q : Text × List Row). q.1) pair)
        ∙ ap (λ (rs : List Rule). rows_after rs [] p.1) dumps

each_sub : Each (built program_app).subs
each_sub = (
  (λ e. absurd (true≢false (sym e))),
  (
    (λ e. absurd (true≢false (sym e))),
    (
      (λ e. absurd (true≢false (sym e))),
      (
        (λ e. absurd (true≢false (sym e))),
        (
          (λ e. refl),
          (
            (λ e. absurd (true≢false (sym e))),
            (
              (λ e. absurd (true≢false (sym e))),
              ((λ e. absurd (true≢false (sym e))), ((λ e. absurd (true≢false (sym e))), tt)),
            ),
          ),
        ),
      ),
    ),
  ),
)

pub dump_read : (words : List Text) (name : Text) (rows : List Row) → line_command words
    ≡ Some (name, rows) → bytes_eq name (codes "dump") ≡ true
    → (word : Text) × (rest : List Text) × (line_stop words ≡ Some (word, rest))
    × (one_of full rows ≡ Some (said (names_full rest)))
unfolding line_command line_stop
dump_read words name rows e f =
    let read = read_at (built program_app) (line_stop words) name rows each_sub e in
    (read.0, read.1, read.2, ap (one_of full) (read.3 f) ∙ dump_rows read.1)

pub is_flag : (words : List Text) (name : Text) (rows : List Row) → line_command words
    ≡ Some (name, rows) → bytes_eq name (codes "dump") ≡ true → IsFlag (one_of (codes "full") rows)
is_flag words name rows e f = go (names_full (dump_read words name rows e f).1)
    (dump_read words name rows e f).3
  where
    go : (b : Bool) → one_of full rows ≡ Some (said b) → IsFlag (one_of full rows)
    go true h = inr (inl h)
    go false h = inr (inr h)

-- a dump has its flag exactly where it stands among the words after the command
pub dump_full : (words : List Text) (name : Text) (rows : List Row) → line_command words
    ≡ Some (name, rows) → bytes_eq name (codes "dump") ≡ true
    → (word : Text) × (rest : List Text) × (line_stop words ≡ Some (word, rest))
    × (flag_of full rows ≡ names_full rest)
dump_full words name rows e f =
    let read = dump_read words name rows e f in (
      read.0,
      read.1,
      read.2,
      ap (λ (o : Option Text). option_map_or (bytes_eq (codes "true")) o
          false) read.3 ∙ told (names_full read.1),
    )
  where
    told : (b : Bool) → bytes_eq (codes "true") (said b) ≡ b
    told true = refl
    told false = refl
