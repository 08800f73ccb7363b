-- Where a line stops: the command is its second word.
use Rattle.std.proofs.Common.{◌≡◌, ◌∙◌, ◌||◌, ◌==◌, ℕ, Bool, cond, true, false, true≢false, zero}
use Rattle.std.proofs.Common.{suc, refl, sym, ap, ap₂, codes, List, [], ◌∷◌, length, drop, Option}
use Rattle.std.proofs.Common.{Some, None}
use Rattle.std.specs.Prelude.{slice_get, is_some, unwrap_or, encode_utf8}
use Rattle.std.specs.List.{find, fold, list_any}
use Rattle.std.specs.Option.{option_map, option_map_or}
use Rattle.std.specs.Str.{bytes_eq, chars}
use Rattle.std.proofs.lemmas.Slice.Eq.{bytes_eq-Decides}
use Rattle.clap.specs.Faults.{other_fault, bundle_step_fault, flags_fault, flag_word_fault}
use Rattle.clap.specs.Faults.{long_fault, short_fault, step_fault, turn_fault, walk_fault}
use Rattle.clap.specs.Kinds.{Kinds, or_else}
use Rattle.clap.specs.Lexer.{long_of, short_of}
use Rattle.clap.specs.Simple.{Shape, built, help_rule, names_of, version_rule}
use Rattle.clap.specs.Walk.{Held, Names, Rule, Text, Walk, after_flag, after_step, answers_to}
use Rattle.clap.specs.Walk.{bundle_met, idle, long_or_other, nothing_held, plain, short_or_plain}
use Rattle.clap.specs.Walk.{subcommand_or_other, walk_from, walked}
use Rattle.clap.specs.declared.builder.value_parser.ValueParser.TheVariants as vp
use Rattle.clap.proofs.WalkLemmas.{walk_stopped}
use Rattle.rr_arguments.specs.CommandLine.{line_kinds, line_stop}
use Rattle.rr_arguments.specs.Grammar.{program_app}

abbrev top : Shape
top = (built program_app).top

abbrev T : List Rule
T = (built program_app).top.rules

abbrev H : Rule
H = record help_rule {
  range = Some (record { start_inclusive = 0; end_inclusive = 0 });
  parser =
      Some vp.String;
}

abbrev V : Rule
V = record version_rule {
  range = Some (record { start_inclusive = 0; end_inclusive = 0 });
  parser = Some vp.String;
}

abbrev N : Names
N = names_of (built program_app)

abbrev some_kind : Kinds → Bool
some_kind kinds = is_some (slice_get kinds 0)

-- a first word that is no command and not `--` has a fault
bundle_faulted : (w : Text) (k : ℕ) (flags : Text) → let m = bundle_met T k flags 0 plain
    nothing_held in let s = after_flag T idle w m.0 m.1 in
    some_kind (or_else (flags_fault T false k flags 0 nothing_held) (step_fault top 1 s.0 s.1))
    ≡ true
unfolding flags_fault bundle_met
bundle_faulted w zero flags = refl
bundle_faulted w (suc k) flags = go (slice_get (chars flags) 0)
  where
    short : (x : ℕ) (a b : Bool) (rest next : Kinds) →
        some_kind (or_else (short_fault T false (cond a (Some H) (cond b (Some V) None)) []
        nothing_held (λ h. rest)) next) ≡ true
    short x true b rest next = refl
    short x false true rest next = refl
    short x false false rest next = refl

    go : (first : Option ℕ) → let m = Rattle.clap.specs.Walk.bundle_step T first flags 0 plain
        nothing_held (bundle_met T k) in let s = after_flag T idle w m.0 m.1 in
        some_kind
        (or_else (bundle_step_fault T false first flags 0 nothing_held (flags_fault T false k))
        (step_fault top 1 s.0 s.1)) ≡ true
    go None = refl
    go (Some x) = at ((104 == x) || false) ((86 == x) || false) _
      where
        at : (a b : Bool) (next : Kinds) →
            some_kind (or_else (short_fault T false (cond a (Some H) (cond b (Some V) None))
            (drop (length (encode_utf8 x)) flags) nothing_held
            (flags_fault T false k (drop (length (encode_utf8 x)) flags) 0)) next) ≡ true
        at true b next = refl
        at false true next = refl
        at false false next = refl

short_faulted : (w : Text) (s : Option Text) → let m = short_or_plain T idle w s nothing_held in
    some_kind
    (or_else (option_map_or (λ flags. flags_fault T false (length flags) flags 0 nothing_held)
    s []) (step_fault top 1 m.0 m.1)) ≡ true
short_faulted w None = refl
short_faulted w (Some flags) = bundle_faulted w (length flags) flags

word_faulted : (w : Text) (o : Option (Text × Option Text)) → let m = long_or_other T idle w o
    nothing_held in
    some_kind (or_else (flag_word_fault T false o w nothing_held) (step_fault top 1 m.0 m.1)) ≡ true
word_faulted w None = short_faulted w (short_of w)
word_faulted w (Some p) = go (bytes_eq (codes "help") p.0 || false)
    (bytes_eq (codes "version") p.0 || false) p.1 _
  where
    go : (a b : Bool) (v : Option Text) (next : Kinds) →
        some_kind
        (or_else (long_fault T false (cond a (Some H) (cond b (Some V) None)) v nothing_held) next)
        ≡ true
    go true b None next = refl
    go true b (Some v) next = refl
    go false true None next = refl
    go false true (Some v) next = refl
    go false false v next = refl

no_first : (a b : Kinds) → or_else a b ≡ [] → a ≡ []
no_first [] b e = refl
no_first (k ∷ ks) b e = e

-- after `--` nothing is a command
abbrev after_dashes : Held → ℕ → Walk
after_dashes h position = record {
  held = h;
  waiting = idle;
  position = position;
  is_trailing =
      true;
  stopped = None;
}

never_stops : (words : List Text) (h : Held) (position : ℕ) →
    (fold (walked T N) (after_dashes h position) words).stopped ≡ None
unfolding walked
never_stops [] h position = refl
never_stops (w ∷ words) h position = never_stops words h position

-- a command answers to its name alone
abbrev Alone : Names → Type 0
Alone [] = Unit {0}
Alone (s ∷ ss) = (s.1 ≡ []) × Alone ss

found_name : (w : Text) (names : Names) (s : Text × List Text) → Alone names →
    find (answers_to w) names ≡ Some s → w ≡ s.0
found_name w [] s alone e = absurd (true≢false (sym (ap is_some e)))
found_name w (n ∷ ns) s alone e = go (bytes_eq n.0 w) refl
    (list_any (λ alias. bytes_eq alias w) n.1) (ap (list_any (λ alias. bytes_eq alias w)) alone.0)
    e (found_name w ns s alone.1)
  where
    go : (a : Bool) → bytes_eq n.0 w ≡ a → (b : Bool) → b ≡ false → cond (a || b) (Some n)
        (find (answers_to w) ns) ≡ Some s → (find (answers_to w) ns ≡ Some s → w ≡ s.0) → w ≡ s.0
    go true is b none h more = sym ((bytes_eq-Decides n.0 w).0 is)
        ∙ ap (λ (o : Option (Text × List Text)). (unwrap_or o n).0) h
    go false is true none h more = absurd (true≢false none)
    go false is false none h more = more h

alone : Alone N
alone = (refl, (refl, (refl, (refl, (refl, (refl, (refl, (refl, (refl, tt)))))))))

abbrev start : Walk
start = walk_from nothing_held

abbrev met_by : Text → Option (Text × List Text) → Bool → Held × Rattle.clap.specs.Walk.Step
met_by w (Some s) d = (nothing_held, Rattle.clap.specs.Walk.subcommand s.0)
met_by w None d = cond d (nothing_held, Rattle.clap.specs.Walk.trailing 1)
    (long_or_other T idle w (long_of w) nothing_held)

abbrev fault_by : Text → Option (Text × List Text) → Bool → Kinds
fault_by w (Some s) d = []
fault_by w None d = or_else (cond d [] (flag_word_fault T false (long_of w) w nothing_held))
    (step_fault top 1 (met_by w None d).0 (met_by w None d).1)

turned : (w : Text) (o : Option (Text × List Text)) (d : Bool) (words : List Text) (word : Text)
    (rest : List Text) → find (answers_to w) N ≡ o → fault_by w o d ≡ []
    → (fold (walked T N) (after_step T w start (met_by w o d).0 (met_by w o d).1) words).stopped
    ≡ Some (word, rest) → (w ≡ word) × (words ≡ rest)
turned w (Some s) d words word rest found none e =
    let stops : Some (s.0, words) ≡ Some (word, rest) = ap (λ (x : Walk). x.stopped)
    (walk_stopped T N start s.0 [] words) ∙ e in
    let same : (s.0, words) ≡ (word, rest) = ap (λ (o : Option (Text × List Text)).
    unwrap_or o (s.0, words)) stops in (
      found_name w N s alone found ∙ ap (λ (p : Text × List Text). p.0) same,
      ap (λ (p : Text × List Text). p.1) same,
    )
turned w None true words word rest found none e =
    absurd (true≢false (sym (ap is_some (sym (never_stops words nothing_held 1) ∙ e))))
turned w None false words word rest found none e =
    absurd (true≢false (sym (word_faulted w (long_of w)) ∙ ap some_kind none))

second : (w : Text) (words : List Text) (word : Text) (rest : List Text) → turn_fault top N start w
    ≡ [] → (fold (walked T N) (walked T N start w) words).stopped ≡ Some (word, rest)
    → (w ≡ word) × (words ≡ rest)
unfolding walked
second w words word rest none e = go (find (answers_to w) N) refl none e
  where
    go : (o : Option (Text × List Text)) → find (answers_to w) N ≡ o
        → or_else (other_fault top (option_map (λ s. s.0) o) w nothing_held)
        (let m = subcommand_or_other T (option_map (λ s. s.0) o) idle 1 w nothing_held in
        step_fault top 1 m.0 m.1) ≡ []
        →
        (fold (walked T N) (let m = subcommand_or_other T (option_map (λ s. s.0) o) idle 1 w
        nothing_held in after_step T w start m.0 m.1) words).stopped ≡ Some (word, rest)
        → (w ≡ word) × (words ≡ rest)
    go (Some s) found n h = turned w (Some s) true words word rest found refl h
    go None found n h = turned w None (bytes_eq w (codes "--")) words word rest found n h

-- a line without a fault that stops at a command has it as its second word
pub stop_second : (words : List Text) (word : Text) (rest : List Text) → line_kinds words ≡ [] →
    line_stop words ≡ Some (word, rest) → (first : Text) × (words ≡ first ∷ word ∷ rest)
unfolding line_kinds line_stop walk_fault
stop_second [] word rest none e = absurd (true≢false (sym (ap is_some e)))
stop_second (first ∷ []) word rest none e = absurd (true≢false (sym (ap is_some e)))
stop_second (first ∷ w ∷ words) word rest none e =
    let is = second w words word rest (no_first _ _ (no_first _ _ none)) e in
    (first, ap₂ (λ (x : Text) (xs : List Text). first ∷ x ∷ xs) is.0 is.1)
