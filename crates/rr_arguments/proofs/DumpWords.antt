-- Whether the words of a dump have its flag.
-- An induction over the words keeps that the rows have the flag where it was seen. Its step splits
-- by how the parser reads a word: `--`, a long name, a bundle or a value. Inner tests are split by
-- hand, and that only `--full` names the flag is shown so. `Flags` needs it, for
-- `command_reading::parse`.
use Rattle.std.proofs.Common.{eqb-true, ◌+◌, ◌≡◌, ◌∙◌, ◌++◌, ◌&&◌, ◌||◌, ◌⊎◌, ◌==◌, ℕ, Bool, cond}
use Rattle.std.proofs.Common.{true, false, true≢false, not, zero, suc, refl, sym, ap, subst, arith}
use Rattle.std.proofs.Common.{codes, List, [], ◌∷◌, length, take, drop, Option, Some, None, inl}
use Rattle.std.proofs.Common.{inr}
use Rattle.std.specs.Prelude.{unwrap_or, slice_get, option_and_then, is_some}
use Rattle.std.specs.List.{before_first, fold, find, prefix_len}
use Rattle.std.specs.Char.{encode_utf8}
use Rattle.std.specs.Str.{bytes_eq, chars}
use Rattle.std.proofs.lemmas.Slice.Eq.{bytes_eq-Decides}
use Rattle.clap.specs.Lexer.{has_byte, long_of, long_of_rest, strip_byte, name_and_value, short_of}
use Rattle.clap.specs.Walk.{with_values, rows_after, long_or_other, trailing, is_pending}
use Rattle.clap.specs.Walk.{next_position, Held, Outcome, Row, Rule, Text, Walk, after_flag}
use Rattle.clap.specs.Walk.{after_step, at_row, bundle_met, bundle_step, done, finished, has_row}
use Rattle.clap.specs.Walk.{idle, long_met, long_word, more_values, nothing_held, one_of, plain}
use Rattle.clap.specs.Walk.{positional_held, pushed, reacted, refused, row_text, settled, short_met}
use Rattle.clap.specs.Walk.{short_or_plain, to_positional, used, value, waits, walk, walk_from}
use Rattle.clap.specs.Walk.{walked, with_default, without}
use Rattle.clap.specs.Simple.{help_rule}
use Rattle.clap.specs.declared.builder.value_parser.Reading.TheVariants as reading
use Rattle.clap.specs.declared.builder.value_parser.ValueParser.TheVariants as vp
use Rattle.clap.specs.declared.parser.matches.ValueSource.{ValueSource}
use Rattle.clap.specs.declared.parser.matches.ValueSource.TheVariants.{CommandLine, DefaultValue}
use Rattle.rr_arguments.specs.Flags.{names_full}
use Rattle.rr_arguments.specs.Grammar.{full_rule, needed_rule}

abbrev pub full : Text
full = codes "full"

abbrev place : Text
place = codes "SETTINGS"

-- ---- the rules of a dump, as a parse uses them

abbrev S : Rule
S = record (needed_rule place) {
  index = Some 1;
  range =
      Some (record { start_inclusive = 1; end_inclusive = 1 });
  parser = Some vp.String;
}

abbrev F : Rule
F = record full_rule {
  defaults = codes "false" ∷ [];
  missing = codes "true" ∷ [];
  range =
      Some (record { start_inclusive = 0; end_inclusive = 0 });
  parser = Some vp.Bool;
}

abbrev H : Rule
H = record help_rule {
  range = Some (record { start_inclusive = 0; end_inclusive = 0 });
  parser =
      Some vp.String;
}

abbrev pub rules : List Rule
rules = S ∷ F ∷ H ∷ []

-- ---- rows

abbrev is_full : Row → Bool
is_full r = bytes_eq r.id full

abbrev fulls : List Row → List Row
fulls [] = []
fulls (r ∷ rs) = cond (is_full r) (r ∷ fulls rs) (fulls rs)

fulls_append : (xs ys : List Row) → fulls (xs ++ ys) ≡ fulls xs ++ fulls ys
fulls_append [] ys = refl
fulls_append (x ∷ xs) ys = go (is_full x) (fulls_append xs ys)
  where
    go : (b : Bool) → fulls (xs ++ ys) ≡ fulls xs ++ fulls ys → cond b (x ∷ fulls (xs ++ ys))
        (fulls (xs ++ ys)) ≡ cond b (x ∷ fulls xs) (fulls xs) ++ fulls ys
    go true e = ap (λ zs. x ∷ zs) e
    go false e = e

find_fulls : (rows : List Row) → find is_full rows ≡ slice_get (fulls rows) 0
find_fulls [] = refl
find_fulls (r ∷ rs) = go (is_full r) (find_fulls rs)
  where
    go : (b : Bool) → find is_full rs ≡ slice_get (fulls rs) 0 → cond b (Some r) (find is_full rs)
        ≡ slice_get (cond b (r ∷ fulls rs) (fulls rs)) 0
    go true e = refl
    go false e = e

same_text : (xs ys : Text) → bytes_eq xs ys ≡ true → xs ≡ ys
same_text xs ys e = (bytes_eq-Decides xs ys).0 e

-- what is done to the row of another argument
at_other : (id : Text) (change : Row → List Row) (missing : List Row) (rows : List Row) →
    bytes_eq id full ≡ false → ((r : Row) → is_full r ≡ false → fulls (change r) ≡ [])
    → fulls missing ≡ [] → fulls (at_row id change missing rows) ≡ fulls rows
at_other id change missing [] other kept none = none
at_other id change missing (r ∷ rs) other kept none = go (bytes_eq r.id id) refl
    (at_other id change missing rs other kept none)
  where
    go : (b : Bool) → bytes_eq r.id id ≡ b → fulls (at_row id change missing rs) ≡ fulls rs
        → fulls (cond b (change r ++ rs) (r ∷ at_row id change missing rs)) ≡ fulls (r ∷ rs)
    go true e h =
        let not_full : is_full r ≡ false = subst (λ (t : Text). bytes_eq t full ≡ false)
        (sym (same_text r.id id e)) other in
        fulls_append (change r) rs ∙ rw (kept r not_full, not_full) refl
    go false e h = ap (λ zs. cond (is_full r) (r ∷ zs) zs) h

-- the row of the flag goes
fulls_without : (rows : List Row) → fulls (without full rows) ≡ drop 1 (fulls rows)
fulls_without [] = refl
fulls_without (r ∷ rs) = go (is_full r) refl (fulls_without rs)
  where
    go : (b : Bool) → is_full r ≡ b → fulls (without full rs) ≡ drop 1 (fulls rs) →
        fulls (cond b ([] ++ rs) (r ∷ without full rs)) ≡ drop 1 (cond b (r ∷ fulls rs) (fulls rs))
    go true e h = refl
    go false e h = rw e h

-- and comes
fulls_added : (change : Row → List Row) (row : Row) (rows : List Row) → is_full row ≡ true →
    fulls rows ≡ [] → fulls (at_row full change (row ∷ []) rows) ≡ row ∷ []
fulls_added change row [] is none = rw is refl
fulls_added change row (r ∷ rs) is none = go (is_full r) refl none (fulls_added change row rs is)
  where
    go : (b : Bool) → is_full r ≡ b → cond b (r ∷ fulls rs) (fulls rs) ≡ [] →
        (fulls rs ≡ [] → fulls (at_row full change (row ∷ []) rs) ≡ row ∷ [])
        → fulls (cond b (change r ++ rs) (r ∷ at_row full change (row ∷ []) rs)) ≡ row ∷ []
    go true e h more = absurd (true≢false (ap (λ (xs : List Row). is_some (slice_get xs 0)) h))
    go false e h more = rw e (more h)

abbrev row_with : Text → ValueSource → Row
row_with text source = record {
  id = full;
  values = text ∷ [];
  count = None;
  source = Some source;
  reading = reading.AsWritten;
}

abbrev rows_if : Bool → List Row
rows_if true = row_with (codes "true") CommandLine ∷ []
rows_if false = []

one_of_fulls : (rows : List Row) (r : Row) (rest : List Row) → fulls rows ≡ r ∷ rest →
    one_of full rows ≡ row_text r
one_of_fulls rows r rest e = ap (option_and_then row_text)
    (find_fulls rows ∙ ap (λ (xs : List Row). slice_get xs 0) e)

-- ---- what is held between two words

abbrev IsPlace : Option (Text × List Text) → Type 0
IsPlace pending = (pending ≡ None) ⊎ ((values : List Text) × (pending ≡ Some (place, values)))

record Good (seen : Bool) (h : Held) : Type 0 where
  rows : fulls h.rows ≡ rows_if seen
  pending : IsPlace h.pending
  skip : h.skip ≡ 0

more_kept : (source : ValueSource) (values : List Text) (r : Row) → is_full r ≡ false →
    fulls (more_values source values r) ≡ []
more_kept source values r e = rw e refl

place_used : (values : List Text) (rows : List Row) → fulls (used S values rows) ≡ fulls rows
place_used [] rows =
    at_other place (more_values CommandLine []) _ (without place rows) refl
    (more_kept CommandLine []) refl ∙ at_other place (λ _. []) [] rows refl (λ r e. refl) refl
place_used (v ∷ vs) rows =
    at_other place (more_values CommandLine (v ∷ vs)) _ (without place rows) refl
    (more_kept CommandLine (v ∷ vs)) refl ∙ at_other place (λ _. []) [] rows refl (λ r e. refl)
    refl

full_used : (seen : Bool) (rows : List Row) → fulls rows ≡ rows_if seen → fulls (used F [] rows)
    ≡ rows_if true
full_used seen rows e = fulls_added (more_values CommandLine (codes "true" ∷ []))
    (row_with (codes "true") CommandLine) (without full rows) refl
    (fulls_without rows ∙ rw e (one seen))
  where
    one : (b : Bool) → drop 1 (rows_if b) ≡ []
    one true = refl
    one false = refl

good_settled : (seen : Bool) (h : Held) → Good seen h → Good seen (settled rules h)
good_settled seen h g = record { rows = go h.pending g.pending; pending = inl refl; skip = g.skip }
  where
    go : (p : Option (Text × List Text)) → IsPlace p →
        fulls (settled rules (record h { pending = p })).rows ≡ rows_if seen
    go p (inl e) = subst (λ (q : Option (Text × List Text)).
        fulls (settled rules (record h { pending = q })).rows ≡ rows_if seen) (sym e) g.rows
    go p (inr (vs, e)) = subst (λ (q : Option (Text × List Text)).
        fulls (settled rules (record h { pending = q })).rows ≡ rows_if seen) (sym e)
        (place_used vs h.rows ∙ g.rows)

good_full : (seen : Bool) (h : Held) → Good seen h → Good true (reacted rules F [] h)
good_full seen h g =
    let s = good_settled seen h g in
    record {
      rows = full_used seen (settled rules h).rows s.rows;
      pending = inl refl;
      skip =
          g.skip;
    }

good_help : (seen : Bool) (h : Held) → Good seen h → Good seen (reacted rules H [] h)
good_help seen h g =
    let s = good_settled seen h g in
    record { rows = s.rows; pending = inl refl; skip = g.skip }

good_pushed : (seen : Bool) (word : Text) (h : Held) → Good seen h → Good seen (pushed place word h)
good_pushed seen word h g = record {
  rows = g.rows;
  pending = inr (go h.pending g.pending);
  skip =
      g.skip;
}
  where
    go : (p : Option (Text × List Text)) → IsPlace p → (values : List Text)
        × ((pushed place word (record h { pending = p })).pending ≡ Some (place, values))
    go p (inl e) = (
      word ∷ [],
      subst (λ (q : Option (Text × List Text)).
          (pushed place word (record h { pending = q })).pending ≡ Some (place, word ∷ [])) (sym e)
          refl,
    )
    go p (inr (vs, e)) = (
      vs ++ word ∷ [],
      subst (λ (q : Option (Text × List Text)).
          (pushed place word (record h { pending = q })).pending ≡ Some (place, vs ++ word ∷ []))
          (sym e) refl,
    )

-- ---- one word

abbrev at : Held → ℕ → Bool → Walk
at h position is_trailing = record {
  held = h;
  waiting = idle;
  position = position;
  is_trailing =
      is_trailing;
  stopped = None;
}

record Reaches (seen is_trailing : Bool) (w : Walk) : Type 0 where
  held : Held
  position : ℕ
  is : w ≡ at held position is_trailing
  good : Good seen held

or_false : (b : Bool) → (b || false) ≡ b
or_false true = refl
or_false false = refl

-- it goes to the place
value_reaches : (seen is_trailing : Bool) (word : Text) (before h : Held) (position : ℕ) →
    Good seen h → Reaches seen is_trailing (after_step rules word (at before position is_trailing)
    h value)
value_reaches seen is_trailing word before h position g = go (1 == position)
  where
    kept : (b : Bool) → Good seen (cond (b && false) h (settled rules h))
    kept true = good_settled seen h g
    kept false = good_settled seen h g

    go : (b : Bool) → Reaches seen is_trailing (to_positional rules (cond b (Some S) None) word
        (at before position is_trailing) h)
    go false = record { held = h; position = position; is = refl; good = g }
    go true = record {
      held = positional_held rules S word h;
      position = next_position S position;
      is = ap (at (positional_held rules S word h) (next_position S position))
          (or_false is_trailing);
      good = good_pushed seen word _ (kept (is_pending S h.pending));
    }

abbrev not_waits : Outcome → Bool
not_waits (waits id) = false
not_waits _ = true

-- it was read as a flag, or as none
flag_reaches : (seen : Bool) (word : Text) (before h : Held) (position : ℕ) (o : Outcome) →
    Good seen h → not_waits o ≡ true
    → Reaches seen false (after_step rules word (at before position false)
    (after_flag rules idle word h o).0 (after_flag rules idle word h o).1)
flag_reaches seen word before h position done g e = record {
  held = h;
  position = position;
  is =
      refl;
  good = g;
}
flag_reaches seen word before h position (waits id) g e = absurd (true≢false (sym e))
flag_reaches seen word before h position plain g e = value_reaches seen false word before h
    position g
flag_reaches seen word before h position refused g e = value_reaches seen false word before h
    position g

abbrev GoodMet : Bool → Held × Outcome → Type 0
GoodMet seen met = Good seen met.0 × (not_waits met.1 ≡ true)

-- it was a bundle
bundle_good : (seen : Bool) (k : ℕ) (flags : Text) (skip : ℕ) (so_far : Outcome) (h : Held) →
    Good seen h → not_waits so_far ≡ true → GoodMet seen (bundle_met rules k flags skip so_far h)
unfolding bundle_met
bundle_good seen zero flags skip so_far h g e = (g, e)
bundle_good seen (suc k) flags skip so_far h g e = go (slice_get (chars flags) 0) skip
    (λ t n o x. bundle_good seen k t n o x)
  where
    short : (x : ℕ) (b : Bool) → ((t : Text) (n : ℕ) (o : Outcome) (y : Held) → Good seen y →
        not_waits o ≡ true → GoodMet seen (bundle_met rules k t n o y))
        →
        GoodMet seen (short_met rules (cond b (Some H) None)
        (drop (length (encode_utf8 x)) flags) h
        (bundle_met rules k (drop (length (encode_utf8 x)) flags) 0 done))
    short x true ih = ih _ 0 done _ (good_help seen h g) refl
    short x false ih = (g, refl)

    go : (first : Option ℕ) (n : ℕ) → ((t : Text) (m : ℕ) (o : Outcome) (y : Held) → Good seen y →
        not_waits o ≡ true → GoodMet seen (bundle_met rules k t m o y))
        → GoodMet seen (bundle_step rules first flags n so_far h (bundle_met rules k))
    go None n ih = (g, e)
    go (Some x) zero ih = short x ((104 == x) || false) ih
    go (Some x) (suc n) ih = ih _ n so_far h g e

-- it was `--name` or `--name=value`
long_reaches : (seen : Bool) (word name : Text) (v : Option Text) (before h : Held) (position : ℕ)
    → Good seen h
    → Reaches (seen || (bytes_eq full name && not (is_some v))) false
    (after_step rules word (at before position false) (long_word rules idle word name v h).0
    (long_word rules idle word name v h).1)
long_reaches seen word name v before h position g = go (bytes_eq full name)
    (bytes_eq (codes "help") name) v
  where
    to : (b : Bool) (m : Held × Outcome) → Good b m.0 → not_waits m.1 ≡ true
        → Reaches b false (after_step rules word (at before position false)
        (after_flag rules idle word m.0 m.1).0 (after_flag rules idle word m.0 m.1).1)
    to b m good e = flag_reaches b word before m.0 position m.1 good e

    or_none : Good (seen || false) h
    or_none = subst (λ (b : Bool). Good b h) (sym (or_false seen)) g

    or_true : (b : Bool) → (b || true) ≡ true
    or_true true = refl
    or_true false = refl

    go : (f k : Bool) (w : Option Text) → let m =
        long_met rules (cond (f || false) (Some F) (cond (k || false) (Some H) None)) w h in
        Reaches (seen || (f && not (is_some w))) false
        (after_step rules word (at before position false)
        (after_flag rules idle word m.0 m.1).0 (after_flag rules idle word m.0 m.1).1)
    go true k None = to (seen || true) (reacted rules F [] h, done)
        (subst (λ (b : Bool). Good b (reacted rules F [] h)) (sym (or_true seen))
        (good_full seen h g)) refl
    go true k (Some text) = to (seen || false) (h, refused) or_none refl
    go false true None = to (seen || false) (reacted rules H [] h, done)
        (good_help (seen || false) h or_none) refl
    go false true (Some text) = to (seen || false) (h, refused) or_none refl
    go false false w = to (seen || false) (h, refused) or_none refl

-- ---- which word is the flag

whole_name : (text : Text) → has_byte 61 text ≡ false → before_first (λ x. x == 61) text ≡ text
whole_name [] e = refl
whole_name (x ∷ xs) e = go (x == 61) e (whole_name xs)
  where
    go : (b : Bool) → (b || has_byte 61 xs) ≡ false →
        (has_byte 61 xs ≡ false → before_first (λ y. y == 61) xs ≡ xs)
        → take (cond (not b) (1 + prefix_len (λ y. not (y == 61)) xs) 0) (x ∷ xs) ≡ x ∷ xs
    go true none ih = absurd (true≢false none)
    go false none ih =
        let n = prefix_len (λ y. not (y == 61)) xs in
        let one : 1 + n ≡ suc n = omega arith in
        ap (λ k. take k (x ∷ xs)) one ∙ ap (λ ys. x ∷ ys) (ih none)

named : (text name : Text) → name_and_value text ≡ (name, None) → text ≡ name
named text name e = go (has_byte 61 text) refl (ap (λ (p : Text × Option Text). p.1) e)
  where
    go : (b : Bool) → has_byte 61 text ≡ b →
        cond b (Some (Rattle.std.specs.List.after_first (λ x. x == 61) text)) None ≡ None →
        text ≡ name
    go true h none = absurd (true≢false (ap is_some none))
    go false h none = sym (whole_name text h) ∙ ap (λ (p : Text × Option Text). p.0) e

long_is : (word name : Text) → long_of word ≡ Some (name, None) → word ≡ 45 ∷ 45 ∷ name
long_is [] name e = absurd (true≢false (sym (ap is_some e)))
long_is (x ∷ []) name e = go (x == 45) e
  where
    go : (b : Bool) → option_and_then long_of_rest
        (option_and_then (strip_byte 45) (cond b (Some []) None)) ≡ Some (name, None) → x ∷ [] ≡ 45
        ∷ 45 ∷ name
    go true h = absurd (true≢false (sym (ap is_some h)))
    go false h = absurd (true≢false (sym (ap is_some h)))
long_is (x ∷ y ∷ rest) name e = go (x == 45) (y == 45) refl refl e
  where
    name_of : Option (Text × Option Text) → Text × Option Text
    name_of None = ([], None)
    name_of (Some p) = p

    to : (text : Text) → long_of_rest text ≡ Some (name, None) → text ≡ name
    to [] h = absurd (true≢false (sym (ap is_some h)))
    to (z ∷ zs) h = named (z ∷ zs) name (ap name_of h)

    go : (b d : Bool) → (x == 45) ≡ b → (y == 45) ≡ d → option_and_then long_of_rest
        (option_and_then (strip_byte 45) (cond b (Some (y ∷ rest)) None)) ≡ Some (name, None)
        → x ∷ y ∷ rest ≡ 45 ∷ 45 ∷ name
    go true true p q h =
        let left : long_of_rest rest ≡ Some (name, None) =
        subst (λ (b : Bool). option_and_then long_of_rest (cond b (Some rest) None)
        ≡ Some (name, None)) q h in
        rw (eqb-true x 45 p, eqb-true y 45 q, to rest left) refl
    go true false p q h =
        absurd
        (true≢false
        (sym
        (ap is_some
        (subst (λ (b : Bool). option_and_then long_of_rest (cond b (Some rest) None)
        ≡ Some (name, None)) q h))))
    go false d p q h = absurd (true≢false (sym (ap is_some h)))

long_full : (word name : Text) (v : Option Text) → long_of word ≡ Some (name, v) →
    (bytes_eq full name && not (is_some v)) ≡ bytes_eq word (codes "--full")
long_full word name v e = go (bytes_eq word (codes "--full")) refl
  where
    forced : (b : Bool) (w : Option Text) → bytes_eq full name ≡ b → long_of word ≡ Some (name, w)
        → bytes_eq word (codes "--full") ≡ false → (b && not (is_some w)) ≡ false
    forced true None p q other =
        let is : word ≡ codes "--full" = long_is word name q ∙ ap (λ t. 45 ∷ 45 ∷ t)
        (sym (same_text full name p)) in
        absurd
        (true≢false (sym (subst (λ (t : Text). bytes_eq t (codes "--full") ≡ true) (sym is)
        refl) ∙ other))
    forced true (Some t) p q other = refl
    forced false w p q other = refl

    go : (b : Bool) → bytes_eq word (codes "--full") ≡ b → (bytes_eq full name && not (is_some v))
        ≡ b
    go true h =
        let at_full : long_of (codes "--full") ≡ Some (name, v) =
        subst (λ (t : Text). long_of t ≡ Some (name, v)) (same_text word (codes "--full") h)
        e in
        let there : Text × Option Text = (full, None) in
        let same : there ≡ (name, v) = ap (λ (o : Option (Text × Option Text)).
        Rattle.std.specs.Prelude.unwrap_or o ([], None)) at_full in
        subst (λ (p : Text × Option Text). (bytes_eq full p.0 && not (is_some p.1)) ≡ true) same
        refl
    go false h = forced (bytes_eq full name) v refl e h

none_full : (word : Text) → long_of word ≡ None → bytes_eq word (codes "--full") ≡ false
none_full word e = go (bytes_eq word (codes "--full")) refl
  where
    go : (b : Bool) → bytes_eq word (codes "--full") ≡ b → bytes_eq word (codes "--full") ≡ false
    go true h =
        absurd
        (true≢false
        (ap is_some (subst (λ (t : Text). long_of t ≡ None) (same_text word (codes "--full") h) e)))
    go false h = h

dashes_not_full : (word : Text) → bytes_eq word (codes "--") ≡ true →
    bytes_eq word (codes "--full") ≡ false
dashes_not_full word e = subst (λ (t : Text). bytes_eq t (codes "--full") ≡ false)
    (sym (same_text word (codes "--") e)) refl

-- ---- the words

other_reaches : (seen : Bool) (word : Text) (h : Held) (position : ℕ) → Good seen h
    → Reaches (seen || bytes_eq word (codes "--full")) false
    (after_step rules word (at h position false) (long_or_other rules idle word (long_of word) h).0
    (long_or_other rules idle word (long_of word) h).1)
other_reaches seen word h position g = go (long_of word) refl
  where
    short : (o : Option Text) → Reaches (seen || false) false
        (after_step rules word (at h position false) (short_or_plain rules idle word o h).0
        (short_or_plain rules idle word o h).1)
    short None = value_reaches (seen || false) false word h h position
        (subst (λ (b : Bool). Good b h) (sym (or_false seen)) g)
    short (Some flags) =
        let zero_skip : Good (seen || false) (record h { skip = 0 }) =
        record {
          rows = g.rows ∙ ap rows_if (sym (or_false seen));
          pending = g.pending;
          skip =
              refl;
        } in
        let met = bundle_good (seen || false) (length flags) flags h.skip plain
        (record h { skip = 0 }) zero_skip refl in
        flag_reaches (seen || false) word h _ position _ met.0 met.1

    go : (o : Option (Text × Option Text)) → long_of word ≡ o
        → Reaches (seen || bytes_eq word (codes "--full")) false
        (after_step rules word (at h position false) (long_or_other rules idle word o h).0
        (long_or_other rules idle word o h).1)
    go None e = rw (none_full word e) (short (short_of word))
    go (Some p) e = rw (← long_full word p.0 p.1 e) (long_reaches seen word p.0 p.1 h h position g)

step : (seen is_trailing : Bool) (w : Walk) (word : Text) → Reaches seen is_trailing w
    → Reaches (seen || (not is_trailing && bytes_eq word (codes "--full")))
    (is_trailing || bytes_eq word (codes "--")) (walked rules [] w word)
unfolding walked
step seen is_trailing w word r =
    subst (λ (v : Walk). Reaches (seen || (not is_trailing && bytes_eq word (codes "--full")))
    (is_trailing || bytes_eq word (codes "--")) (walked rules [] v word)) (sym r.is)
    (go is_trailing)
  where
    dashes : (b : Bool) → bytes_eq word (codes "--") ≡ b
        →
        (let met = cond b (r.held, trailing r.position)
        (long_or_other rules idle word (long_of word) r.held) in
        Reaches (seen || bytes_eq word (codes "--full")) b
        (after_step rules word (at r.held r.position false) met.0 met.1))
    dashes true e = rw (dashes_not_full word e, or_false seen)
        (record { held = r.held; position = r.position; is = refl; good = r.good })
    dashes false e = other_reaches seen word r.held r.position r.good

    go : (t : Bool) → Reaches (seen || (not t && bytes_eq word (codes "--full")))
        (t || bytes_eq word (codes "--")) (walked rules [] (at r.held r.position t) word)
    go true = rw (or_false seen) (value_reaches seen true word r.held r.held r.position r.good)
    go false = dashes (bytes_eq word (codes "--")) refl

bool_step : (seen t d f n : Bool) → (d ≡ true → f ≡ false) →
    ((seen || (not t && f)) || (not (t || d) && n)) ≡ (seen || (not t && cond d false (f || n)))
bool_step true t d f n h = refl
bool_step false true d f n h = refl
bool_step false false true f n h = rw (h refl) refl
bool_step false false false true n h = refl
bool_step false false false false n h = refl

all_words : (words : List Text) (seen is_trailing : Bool) (w : Walk) → Reaches seen is_trailing w
    → Good (seen || (not is_trailing && names_full words)) (fold (walked rules []) w words).held
all_words [] seen is_trailing w r =
    subst (λ (v : Walk). Good (seen || (not is_trailing && false)) v.held) (sym r.is)
    (subst (λ (b : Bool). Good b r.held) (none is_trailing) r.good)
  where
    none : (t : Bool) → seen ≡ (seen || (not t && false))
    none true = sym (or_false seen)
    none false = sym (or_false seen)
all_words (word ∷ words) seen is_trailing w r =
    subst (λ (b : Bool). Good b (fold (walked rules []) (walked rules [] w word) words).held)
    (bool_step seen is_trailing (bytes_eq word (codes "--")) (bytes_eq word (codes "--full"))
    (names_full words) (dashes_not_full word))
    (all_words words _ _ (walked rules [] w word) (step seen is_trailing w word r))

-- ---- the rows at the end

has_full : (rows : List Row) → has_row full rows ≡ is_some (slice_get (fulls rows) 0)
has_full [] = refl
has_full (r ∷ rs) = go (is_full r) (has_full rs)
  where
    go : (b : Bool) → has_row full rs ≡ is_some (slice_get (fulls rs) 0) → (b || has_row full rs)
        ≡ is_some (slice_get (cond b (r ∷ fulls rs) (fulls rs)) 0)
    go true e = refl
    go false e = e

cond_same : {X : Type 0} (b : Bool) (x : X) → cond b x x ≡ x
cond_same true x = refl
cond_same false x = refl

abbrev pub said : Bool → Text
said true = codes "true"
said false = codes "false"

at_end : (seen : Bool) (h : Held) → Good seen h → one_of full (finished rules h) ≡ Some (said seen)
at_end seen h g =
    let rows = (settled rules h).rows in
    let place_kept : with_default rows S ≡ rows = cond_same (has_row place rows) rows in
    let help_kept : with_default (with_default rows F) H ≡ with_default rows F =
    cond_same (has_row (codes "help") (with_default rows F)) (with_default rows F) in
    ap (λ (rs : List Row). one_of full (with_default (with_default rs F) H)) place_kept
    ∙ ap (one_of full) help_kept
    ∙ go seen rows (good_settled seen h g).rows
  where
    go : (b : Bool) (rows : List Row) → fulls rows ≡ rows_if b → one_of full (with_default rows F)
        ≡ Some (said b)
    go true rows e = rw (has_full rows, e) (one_of_fulls rows (row_with (codes "true") CommandLine)
        [] e)
    go false rows e = rw (has_full rows, e)
        (one_of_fulls (with_values full reading.AsWritten DefaultValue (codes "false" ∷ []) rows)
        (row_with (codes "false") DefaultValue) []
        (fulls_added (more_values DefaultValue (codes "false" ∷ []))
        (row_with (codes "false") DefaultValue) rows refl e))

at_start : Reaches false false (walk_from nothing_held)
at_start = record {
  held = nothing_held;
  position = 1;
  is = refl;
  good =
      record { rows = refl; pending = inl refl; skip = refl };
}

-- the flag of a dump is true exactly where it stands among the words
pub dump_rows : (words : List Text) → one_of full (rows_after rules [] words)
    ≡ Some (said (names_full words))
dump_rows words = at_end (names_full words) (walk rules [] nothing_held words).held
    (all_words words false false (walk_from nothing_held) at_start)
