-- Lemmas on the reading of a text paragraph by paragraph: for `paragraphs` and for submissions.
-- Each call cuts what was held and read into a block and what is held next, and the cuts add up.
-- The length is in the ends (closed, ended, broken, endless) and in every answer and fault.
-- Appends and counts that stay at their limit are given by hand. `Paragraphs` and rr_submission's
-- `Progress` need it.
use Rattle.std.proofs.Common.{◌≡◌, ℕ, ◌+◌, ◌-◌, ◌*◌, ◌^◌, ◌<◌, ◌≤◌, max, List, [], ◌∷◌, ◌++◌, ◌⊎◌}
use Rattle.std.proofs.Common.{inl, inr, length, length-append, take, Option, Some, None, Result, Ok}
use Rattle.std.proofs.Common.{Err, IfOk, IfSome, refl, sym, ap, subst, ◌∙◌, arith, append_assoc}
use Rattle.std.proofs.lemmas.Bool.{cases_lt}
use Rattle.std.proofs.lemmas.List.{append-nil, length-drop, length-take}
use Rattle.rr_io.specs.Told.{Told, Counts}
use Rattle.rr_io.specs.Receiving.{Gives, CountsReads}
use Rattle.rr_io.specs.declared.receiving.ReadEnd.TheVariants as end
use Rattle.rr_io.proofs.Transfers.{Gives-none, Gives-then}
use Rattle.rr_text.specs.declared.text_fault.TextFault.{TextFault}
use Rattle.rr_text.specs.declared.text_fault.TextFault.TheVariants as fault
use Rattle.rr_text.specs.declared.draft.Draft.{Draft}
use Rattle.rr_text.specs.declared.paragraphs.ParagraphsState.{ParagraphsState}
use Rattle.rr_text.specs.declared.paragraphs.ParagraphsState.TheVariants.{Open, Ended, Broken}
use Rattle.rr_text.specs.declared.paragraphs.ParagraphsState.TheVariants.{Endless}
use Rattle.rr_text.specs.declared.paragraphs.Paragraphs.{Paragraphs}
use Rattle.rr_text.specs.Fields.{Field, AreFields}
use Rattle.rr_text.specs.Entries.{entries}
use Rattle.rr_text.specs.WholePart.{whole_part, whole_entries}
use Rattle.rr_text.specs.DraftParts.{IsUnclosed}
use Rattle.rr_text.specs.ReaderParts.{TakesAll, FillsMore, Fills, ReadsInCall, GathersClosed}
use Rattle.rr_text.specs.ReaderParts.{GathersRest, Gathers, GivesFound, GivesLast}
use Rattle.rr_text.specs.ParagraphReaders.{Entry, state_of, reads_of, held, IsNew, KeepsApart}
use Rattle.rr_text.specs.ParagraphReaders.{HasGiven, HasEnded, GivesNext, left_of, Nearer, Stays}
use Rattle.rr_text.proofs.ApartLemmas.{no_entries, no_whole, joins, whole_joined}
use Rattle.rr_text.proofs.DraftLemmas.{unclosed_whole}

-- a text that is being gathered: the beginning of what was held and given is in the draft
pub record IsGathering (before now : Told) (left : List ℕ) (made : ℕ) (cur : Paragraphs) :
    Type 0 where
  pub given : List ℕ
  pub prefix : List ℕ
  pub reading : ReadsInCall Open before now made cur given
  pub cut : left ++ given ≡ prefix ++ held cur
  pub unclosed : IsUnclosed prefix cur.draft

-- while a reading goes on, no answer is the same for good
pub open_stays : {R : Type 0} (state : ParagraphsState) (before after : R) (old new : Paragraphs)
    (answer : Result (Option (List Field)) TextFault) → state ≡ Open →
    Stays state before after old new answer
open_stays state before after old new answer is =
    let P : ParagraphsState → Type 0 = λ s. Stays s before after old new answer in
    subst P (sym is) tt

-- an entry that is found is the last one
pub last_found : (text : List ℕ) (answer : Result (Option (List Field)) TextFault) →
    GivesFound text answer → GivesLast text answer
last_found text (Ok None) found = absurd found
last_found text (Ok (Some fields)) found = found
last_found text (Err fault) found = found

counts_by : (a b c m n : ℕ) → Counts a b m → Counts b c n → 2 ^ 64 ≤ (a + m) + n → (a + m < 2 ^ 64)
    ⊎ (2 ^ 64 ≤ a + m) → (b + n < 2 ^ 64) ⊎ (2 ^ 64 ≤ b + n) → c ≡ max a (2 ^ 64 - 1)
counts_by a b c m n p q h (inl u) (inl v) = let one : b ≡ a + m = p.exact u in absurd (omega arith)
counts_by a b c m n p q h (inl u) (inr v) = let one : b ≡ a + m = p.exact u in let two : c
    ≡ max b (2 ^ 64 - 1) = q.full v in omega arith
counts_by a b c m n p q h (inr u) (inl v) = let one : b ≡ max a (2 ^ 64 - 1) = p.full u in
    let two : c ≡ b + n = q.exact v in omega arith
counts_by a b c m n p q h (inr u) (inr v) = let one : b ≡ max a (2 ^ 64 - 1) = p.full u in
    let two : c ≡ max b (2 ^ 64 - 1) = q.full v in omega arith

below_or_not : (n : ℕ) → (n < 2 ^ 64) ⊎ (2 ^ 64 ≤ n)
below_or_not n = cases_lt n (2 ^ 64)

-- the counts of one reading and of another
pub counts_then : (a b c m n : ℕ) → Counts a b m → Counts b c n → Counts a c (m + n)
counts_then a b c m n p q = record {
  exact = λ h. let one : b ≡ a + m = p.exact (omega arith) in let two : c ≡ b + n =
      q.exact (omega arith) in omega arith;
  full = λ h. counts_by a b c m n p q (omega arith) (below_or_not (a + m)) (below_or_not (b + n));
}

counts_none : (a : ℕ) → Counts a a 0
counts_none a = record { exact = λ h. omega arith; full = λ h. omega arith }

-- nothing was read yet
pub gathering_none : (now : Told) (cur : Paragraphs) → IsUnclosed [] cur.draft →
    IsGathering now now (held cur) (reads_of cur) cur
gathering_none now cur unclosed = record {
  given = [];
  prefix = [];
  reading = record {
    gives = Gives-none now;
    count = 0;
    counts = counts_none now.reads;
    reads =
        omega arith;
    fruitful = λ _. omega arith;
    bounded = omega arith;
  };
  cut = append-nil (held cur);
  unclosed = unclosed;
}

-- all that was held is in the draft
pub gathered_rest : (before now : Told) (left : List ℕ) (made : ℕ) (cur mid : Paragraphs) →
    IsGathering before now left made cur → reads_of mid ≡ reads_of cur
    → ((past : List ℕ) → IsUnclosed past cur.draft → TakesAll past cur mid) →
    GathersRest Open before now left made mid
gathered_rest before now left made cur mid so reads takes =
    let all : TakesAll so.prefix cur mid = takes so.prefix so.unclosed in
    record {
      given = so.given;
      reading = record {
        gives = so.reading.gives;
        count = so.reading.count;
        counts = so.reading.counts;
        reads = reads ∙ so.reading.reads;
        fruitful = so.reading.fruitful;
        bounded = so.reading.bounded;
      };
      none = all.none;
      unclosed = subst (λ (t : List ℕ). IsUnclosed t mid.draft) (sym so.cut) all.unclosed;
    }

pub held_few : (p : Paragraphs) → length (held p) ≤ 4096
held_few p =
    let short : length (take p.to p.block) ≤ p.to = omega (arith, length-take p.to p.block) in
    let shorter : length (held p) ≡ length (take p.to p.block) - p.from =
    length-drop p.from (take p.to p.block) in
    omega (arith, short, shorter, p.room)

-- a block more was read
pub gathering_more : (before now after : Told) (left : List ℕ) (made : ℕ) (mid new : Paragraphs) →
    GathersRest Open before now left made mid → FillsMore now after mid new → new.draft ≡ mid.draft
    → IsGathering before after left made new
gathering_more before now after left made mid new rest fills draft = record {
  given = rest.given ++ held new;
  prefix = left ++ rest.given;
  reading = record {
    gives = Gives-then rest.given (held new) rest.reading.gives fills.gives;
    count = rest.reading.count + 1;
    counts = counts_then _ _ _ rest.reading.count 1 rest.reading.counts fills.counts;
    reads = omega (arith, fills.reads, rest.reading.reads);
    fruitful = λ open_. let few = rest.reading.fruitful open_ in
        omega (arith, few, fills.some, length-append rest.given (held new));
    bounded = omega (
      arith,
      rest.reading.bounded,
      held_few new,
      length-append rest.given
          (held new),
    );
  };
  cut = sym (append_assoc (left) rest.given (held new));
  unclosed = subst (λ (d : Draft). IsUnclosed (left ++ rest.given) d) (sym draft) rest.unclosed;
}

-- a read that brought nothing ends the text, or breaks it off
pub gathers_end : (state : ParagraphsState) (before now after : Told) (left : List ℕ) (made : ℕ)
    (mid new : Paragraphs) → GathersRest Open before now left made mid → reads_of mid < 16777216
    → Fills (Some state) now after mid new → new.draft ≡ mid.draft → Gathers state before after
    left made new
gathers_end Open before now after left made mid new rest more fills draft = absurd fills
gathers_end Ended before now after left made mid new rest more fills draft = record {
  given = rest.given;
  reading = record {
    gives = (
      subst (λ (t : List ℕ). Gives before after t) (append-nil rest.given)
          (Gives-then rest.given [] rest.reading.gives fills.gives),
      fills.spent,
    );
    count = rest.reading.count + 1;
    counts = counts_then _ _ _ rest.reading.count 1 rest.reading.counts fills.counts;
    reads = omega (arith, fills.reads, rest.reading.reads);
    fruitful = λ ended. absurd (ended refl);
    bounded = omega (arith, rest.reading.bounded);
  };
  none = fills.none;
  unclosed = subst (λ (d : Draft). IsUnclosed (left ++ rest.given) d) (sym draft) rest.unclosed;
}
gathers_end Broken before now after left made mid new rest more fills draft = (
  record {
    given = rest.given;
    reading = record {
      gives = record { between = now; gives = rest.reading.gives; fails = fills.fails };
      count = rest.reading.count;
      counts = subst (λ (n : ℕ). Counts before.reads n rest.reading.count)
          (sym fills.fails.no_read) rest.reading.counts;
      reads = fills.reads ∙ rest.reading.reads;
      fruitful = λ _. rest.reading.fruitful (λ e. cc);
      bounded = rest.reading.bounded;
    };
    none = fills.none;
    unclosed = subst (λ (d : Draft). IsUnclosed (left ++ rest.given) d) (sym draft) rest.unclosed;
  },
  omega (arith, more, fills.reads),
)
gathers_end Endless before now after left made mid new rest more fills draft = absurd fills

some_head : (prefix : List ℕ) (entry : Entry) → entries prefix ≡ entry ∷ [] → 0 < length prefix
some_head [] entry e = let none : entries [] ≡ [] = no_entries in cc
some_head (b ∷ bs) entry e = omega arith

keeps_after : (state : ParagraphsState) (now : Told) (prefix more left : List ℕ) → whole_part prefix
    ≡ prefix → KeepsApart state now more left → KeepsApart state now (prefix ++ more) left
keeps_after Open now prefix more left whole keeps = whole_joined prefix more whole
    ∙ ap (λ r. prefix ++ r) keeps
keeps_after Ended now prefix more left whole keeps = keeps
keeps_after Broken now prefix more left whole keeps = absurd keeps
keeps_after Endless now prefix more left whole keeps = absurd keeps

open_whole : (start now : Told) (p : Paragraphs) (given : List Entry)
    (has : HasGiven start now p given) → state_of p ≡ Open → whole_part has.prefix ≡ has.prefix
open_whole start now p given has is =
    subst (λ (state : ParagraphsState). KeepsApart state now has.prefix (held p)) is has.apart

-- the bytes of one call, with what it found of them
pub record Finds (before after : Told) (old new : Paragraphs) (prefix : List ℕ) : Type 0 where
  pub bytes : List ℕ
  pub gives : Gives before after bytes
  pub count : ℕ
  pub counts : CountsReads before after count
  pub reads : reads_of new ≡ reads_of old + count
  pub fruitful : state_of new ≡ Open → count ≤ length bytes
  pub bounded : length bytes ≤ 4096 * count
  pub cut : held old ++ bytes ≡ prefix ++ held new
  pub apart : KeepsApart (state_of new) after prefix (held new)

-- one entry more
pub grown : (start before after : Told) (old new : Paragraphs) (given : List Entry)
    (prefix : List ℕ) (entry : Entry) → HasGiven start before old given → state_of old ≡ Open
    → Finds before after old new prefix → entries prefix ≡ entry ∷ [] → HasGiven start after new
    (given ++ entry ∷ [])
grown start before after old new given prefix entry has is finds one =
    let whole : whole_part has.prefix ≡ has.prefix = open_whole start before old given has is in
    record {
      text = has.text ++ finds.bytes;
      prefix = has.prefix ++ prefix;
      gives = Gives-then has.text finds.bytes has.gives finds.gives;
      cut = ap (λ t. t ++ finds.bytes) has.cut
          ∙ (append_assoc has.prefix (held old) finds.bytes ∙ (ap (λ t. has.prefix ++ t) finds.cut
          ∙ sym (append_assoc has.prefix prefix (held new))));
      spelled = (joins has.prefix prefix whole).0 ∙ (ap (λ es. es ++ entries prefix) has.spelled
          ∙ ap (λ es. given ++ es) one);
      apart = keeps_after (state_of new) after has.prefix prefix (held new) whole finds.apart;
      counts = subst (λ (n : ℕ). CountsReads start after n) (sym finds.reads)
          (counts_then _ _ _ (reads_of old) finds.count has.counts finds.counts);
      fruitful = λ open_. let some = finds.fruitful open_ in let before_ = has.fruitful is in
          omega (arith, some, before_, finds.reads, length-append has.text finds.bytes);
      bounded = omega (
        arith,
        has.bounded,
        finds.bounded,
        finds.reads,
        length-append has.text
            finds.bytes,
      );
      few = omega (
        arith,
        has.few,
        some_head prefix entry one,
        length-append has.prefix prefix,
        length-append given (entry ∷ []),
      );
    }

-- the answer with the entry that was found
pub found_next : (start after : Told) (new : Paragraphs) (given : List Entry) (prefix : List ℕ)
    (answer : Result (Option (List Field)) TextFault)
    → ((entry : Entry) → entries prefix ≡ entry ∷ [] → HasGiven start after new
    (given ++ entry ∷ [])) → GivesFound prefix answer → GivesNext start after new given answer
found_next start after new given prefix (Ok None) grow found = absurd found
found_next start after new given prefix (Ok (Some fields)) grow found = grow (Ok fields) found.0
found_next start after new given prefix (Err fault.TooLarge) grow found = grow (Err fault.TooLarge)
    found
found_next start after new given prefix (Err fault.BadByte) grow found = grow (Err fault.BadByte)
    found
found_next start after new given prefix (Err fault.FirstContinues) grow found =
    grow (Err fault.FirstContinues) found
found_next start after new given prefix (Err fault.NoColon) grow found = grow (Err fault.NoColon)
    found
found_next start after new given prefix (Err fault.BadName) grow found = grow (Err fault.BadName)
    found
found_next start after new given prefix (Err fault.Memory) grow found =
    (found.0, grow found.0 found.1)
found_next start after new given prefix (Err fault.Read) grow found = absurd found
found_next start after new given prefix (Err fault.Endless) grow found = absurd found

found_some : (prefix : List ℕ) (answer : Result (Option (List Field)) TextFault) →
    GivesFound prefix answer → 0 < length prefix
found_some prefix (Ok None) found = absurd found
found_some prefix (Ok (Some fields)) found = some_head prefix (Ok fields) found.0
found_some prefix (Err fault.TooLarge) found = some_head prefix (Err fault.TooLarge) found
found_some prefix (Err fault.BadByte) found = some_head prefix (Err fault.BadByte) found
found_some prefix (Err fault.FirstContinues) found = some_head prefix (Err fault.FirstContinues)
    found
found_some prefix (Err fault.NoColon) found = some_head prefix (Err fault.NoColon) found
found_some prefix (Err fault.BadName) found = some_head prefix (Err fault.BadName) found
found_some prefix (Err fault.Memory) found = some_head prefix found.0 found.1
found_some prefix (Err fault.Read) found = absurd found
found_some prefix (Err fault.Endless) found = absurd found

nearer_by : (answer : Result (Option (List Field)) TextFault) (before after : ℕ) → after < before →
    Nearer before after answer
nearer_by (Ok None) before after less = tt
nearer_by (Ok (Some fields)) before after less = less
nearer_by (Err fault.TooLarge) before after less = less
nearer_by (Err fault.BadByte) before after less = less
nearer_by (Err fault.FirstContinues) before after less = less
nearer_by (Err fault.NoColon) before after less = less
nearer_by (Err fault.BadName) before after less = less
nearer_by (Err fault.Memory) before after less = less
nearer_by (Err fault.Read) before after less = tt
nearer_by (Err fault.Endless) before after less = tt

fewer : (old new : Paragraphs) (bytes prefix : List ℕ) (count : ℕ) → reads_of new ≡ reads_of old +
    count → length bytes ≤ 4096 * count → held old ++ bytes ≡ prefix ++ held new → 0 < length prefix
    → left_of new < left_of old
fewer old new bytes prefix count reads bounded cut some =
    let lengths : length (held old) + length bytes ≡ length prefix + length (held new) =
    sym (length-append (held old) bytes) ∙ (ap length cut ∙ length-append prefix (held new))
    in omega (arith, reads, bounded, lengths, some, new.few)

pub nearer_found : (old new : Paragraphs) (bytes prefix : List ℕ) (count : ℕ)
    (answer : Result (Option (List Field)) TextFault) → reads_of new ≡ reads_of old + count →
    length bytes ≤ 4096 * count
    → held old ++ bytes ≡ prefix ++ held new → GivesFound prefix answer → Nearer (left_of old)
    (left_of new) answer
nearer_found old new bytes prefix count answer reads bounded cut found =
    nearer_by answer (left_of old) (left_of new) (fewer old new bytes prefix count reads bounded
    cut (found_some prefix answer found))

pub fields_found : (prefix : List ℕ) (answer : Result (Option (List Field)) TextFault) →
    GivesFound prefix answer
    → IfOk answer (λ next. IfSome next (λ fields. (0 < length fields) × AreFields fields))
fields_found prefix (Ok None) found = absurd found
fields_found prefix (Ok (Some fields)) found = (found.1, found.2)
fields_found prefix (Err fault) found = tt

-- what a block with its blank line was found by
pub closed_finds : (before after : Told) (old mid new : Paragraphs)
    (gathers : GathersClosed before after (held old) (reads_of old) mid) → held new ≡ held mid →
    reads_of new ≡ reads_of mid → state_of new ≡ Open
    → Finds before after old new gathers.prefix
closed_finds before after old mid new gathers same reads is = record {
  bytes = gathers.given;
  gives = gathers.reading.gives;
  count = gathers.reading.count;
  counts = gathers.reading.counts;
  reads = reads ∙ gathers.reading.reads;
  fruitful = λ _. gathers.reading.fruitful (λ e. cc);
  bounded = gathers.reading.bounded;
  cut = gathers.cut ∙ ap (λ t. gathers.prefix ++ t) (sym same);
  apart = subst (λ (state : ParagraphsState). KeepsApart state after gathers.prefix (held new))
      (sym is) gathers.closed.apart;
}

-- what the last block of an ended text was found by
pub ended_finds : (before after : Told) (old mid new : Paragraphs)
    (gathers : GathersRest Ended before after (held old) (reads_of old) mid) → held new ≡ held mid
    → reads_of new ≡ reads_of mid → state_of new ≡ Ended
    → Finds before after old new (held old ++ gathers.given)
ended_finds before after old mid new gathers same reads is =
    let none : held new ≡ [] = same ∙ gathers.none in
    record {
      bytes = gathers.given;
      gives = gathers.reading.gives.0;
      count = gathers.reading.count;
      counts = gathers.reading.counts;
      reads = reads ∙ gathers.reading.reads;
      fruitful = λ open_. cc;
      bounded = gathers.reading.bounded;
      cut = sym (append-nil (held old ++ gathers.given))
          ∙ ap (λ t. (held old ++ gathers.given) ++ t) (sym none);
      apart = subst (λ (state : ParagraphsState). KeepsApart state after (held old ++ gathers.given)
          (held new)) (sym is) (none, gathers.reading.gives.1);
    }

-- all of the text and what was given of it
all_of : (start before : Told) (old : Paragraphs) (given : List Entry)
    (has : HasGiven start before old given) (bytes : List ℕ) → has.text ++ bytes ≡ has.prefix ++
    (held old ++ bytes)
all_of start before old given has bytes = ap (λ t. t ++ bytes) has.cut ∙ append_assoc has.prefix
    (held old) bytes

pub within_limit : (a b n : ℕ) → Counts a b n → n ≤ 16777216 → b ≤ a + 2 ^ 24
within_limit a b n counts few = elim (below_or_not (a + n)) [
  | inl below ↦ omega (arith, counts.exact below)
  | inr past ↦ omega (arith, counts.full past)
]

below_limit : (a b n : ℕ) → Counts a b n → n < 16777216 → b < a + 2 ^ 24
below_limit a b n counts few = elim (below_or_not (a + n)) [
  | inl below ↦ omega (arith, counts.exact below)
  | inr past ↦ omega (arith, counts.full past)
]

-- a text that ended, of which nothing is left
pub ended_none : (start before after : Told) (old mid : Paragraphs) (given : List Entry) →
    HasGiven start before old given → state_of old ≡ Open
    → (gathers : GathersRest Ended before after (held old) (reads_of old) mid) →
    entries (held old ++ gathers.given) ≡ [] → HasEnded start after end.Whole given
ended_none start before after old mid given has is gathers none =
    let counts : CountsReads start after (reads_of old + gathers.reading.count) =
    counts_then _ _ _ (reads_of old) gathers.reading.count has.counts gathers.reading.counts in
    record {
      text = has.text ++ gathers.given;
      reads = (
        Gives-then has.text gathers.given has.gives gathers.reading.gives.0,
        gathers.reading.gives.1,
        within_limit start.reads after.reads (reads_of old + gathers.reading.count) counts
            (omega (arith, gathers.reading.reads, mid.few)),
      );
      spelled = ap entries (all_of start before old given has gathers.given)
          ∙
          ((joins has.prefix (held old ++ gathers.given) (open_whole start before old given has
          is)).0
          ∙ (ap (λ es. es ++ entries (held old ++ gathers.given)) has.spelled
          ∙ (ap (λ es. given ++ es) none ∙ append-nil given)));
    }

whole_all : (start before : Told) (old : Paragraphs) (given : List Entry)
    (has : HasGiven start before old given) (bytes : List ℕ) (draft : Draft) → state_of old
    ≡ Open → IsUnclosed (held old ++ bytes) draft
    → whole_entries (has.text ++ bytes) ≡ given
whole_all start before old given has bytes draft is unclosed =
    ap whole_entries (all_of start before old given has bytes)
    ∙ ((joins has.prefix (held old ++ bytes) (open_whole start before old given has is)).1
    ∙ (ap (λ es. es ++ whole_entries (held old ++ bytes)) has.spelled
    ∙ (ap (λ es. given ++ es) (unclosed_whole (held old ++ bytes) draft unclosed) ∙ append-nil
    given)))

-- a text that broke off
pub broken_end : (start before after : Told) (old mid : Paragraphs) (given : List Entry) →
    HasGiven start before old given → state_of old ≡ Open
    → GathersRest Broken before after (held old) (reads_of old) mid × (reads_of mid < 16777216) →
    HasEnded start after end.Broken given
broken_end start before after old mid given has is (gathers, more) =
    let counts : CountsReads start after (reads_of old + gathers.reading.count) =
    counts_then _ _ _ (reads_of old) gathers.reading.count has.counts gathers.reading.counts in
    record {
      text = has.text ++ gathers.given;
      reads = (
        record {
          between = gathers.reading.gives.between;
          gives = Gives-then has.text gathers.given has.gives gathers.reading.gives.gives;
          fails = gathers.reading.gives.fails;
        },
        below_limit start.reads after.reads (reads_of old + gathers.reading.count) counts
            (omega (arith, gathers.reading.reads, more)),
      );
      spelled = whole_all start before old given has gathers.given mid.draft is gathers.unclosed;
    }

-- a text that met the limit of reads
pub endless_end : (start before after : Told) (old mid : Paragraphs) (given : List Entry) →
    HasGiven start before old given → state_of old ≡ Open
    → GathersRest Endless before after (held old) (reads_of old) mid × (reads_of mid ≡ 16777216) →
    HasEnded start after end.Endless given
endless_end start before after old mid given has is (gathers, full) =
    let counts : CountsReads start after (reads_of old + gathers.reading.count) =
    counts_then _ _ _ (reads_of old) gathers.reading.count has.counts gathers.reading.counts in
    let all : reads_of old + gathers.reading.count ≡ 16777216 = sym gathers.reading.reads ∙ full in
    let some : reads_of old ≤ length has.text = has.fruitful is in
    let more : gathers.reading.count ≤ length gathers.given = gathers.reading.fruitful (λ e. cc) in
    record {
      text = has.text ++ gathers.given;
      reads = (
        Gives-then has.text gathers.given has.gives gathers.reading.gives,
        omega (arith, all, some, more, length-append has.text gathers.given),
        subst (λ (n : ℕ). CountsReads start after n) all counts,
      );
      spelled = whole_all start before old given has gathers.given mid.draft is gathers.unclosed;
    }

-- the next answer of an ended text
pub last_next : (start before after : Told) (old mid new : Paragraphs) (given : List Entry)
    (answer : Result (Option (List Field)) TextFault) → HasGiven start before old given →
    state_of old ≡ Open
    → (gathers : GathersRest Ended before after (held old) (reads_of old) mid) →
    held new ≡ held mid → reads_of new ≡ reads_of mid → state_of new ≡ Ended →
    GivesLast (held old ++ gathers.given) answer
    → GivesNext start after new given answer
last_next start before after old mid new given (Ok None) has is gathers same reads ended last =
    (ended, ended_none start before after old mid given has is gathers last)
last_next start before after old mid new given (Ok (Some fields)) has is gathers same reads ended
    last =
    found_next start after new given (held old ++ gathers.given) (Ok (Some fields))
    (λ entry. grown start before after old new given (held old ++ gathers.given) entry has is
    (ended_finds before after old mid new gathers same reads ended)) last
last_next start before after old mid new given (Err fault) has is gathers same reads ended last =
    found_next start after new given (held old ++ gathers.given) (Err fault)
    (λ entry. grown start before after old new given (held old ++ gathers.given) entry has is
    (ended_finds before after old mid new gathers same reads ended)) last

last_bytes : (bytes left : List ℕ) → left ≡ [] → bytes ≡ bytes ++ left
last_bytes bytes left e = sym (append-nil bytes) ∙ ap (λ t. bytes ++ t) (sym e)

pub last_nearer : (before after : Told) (old mid : Paragraphs)
    (answer : Result (Option (List Field)) TextFault) (gathers : GathersRest Ended before after
    (held old) (reads_of old) mid)
    → GivesLast (held old ++ gathers.given) answer → Nearer (left_of old) (left_of mid) answer
last_nearer before after old mid (Ok None) gathers last = tt
last_nearer before after old mid (Ok (Some fields)) gathers last =
    nearer_found old mid gathers.given (held old ++ gathers.given) gathers.reading.count
    (Ok (Some fields)) gathers.reading.reads gathers.reading.bounded
    (last_bytes (held old ++ gathers.given) (held mid) gathers.none) last
last_nearer before after old mid (Err fault) gathers last =
    nearer_found old mid gathers.given (held old ++ gathers.given) gathers.reading.count
    (Err fault) gathers.reading.reads gathers.reading.bounded
    (last_bytes (held old ++ gathers.given) (held mid) gathers.none) last

pub left_same : (old new : Paragraphs) → held new ≡ held old → reads_of new ≡ reads_of old →
    left_of new ≡ left_of old
left_same old new left reads = ap (λ n. (16777216 - n) * 4097 + length (held new)) reads
    ∙ ap (λ t. (16777216 - reads_of old) * 4097 + length t) left

pub last_fields : (text : List ℕ) (answer : Result (Option (List Field)) TextFault) →
    GivesLast text answer →
    IfOk answer (λ next. IfSome next (λ fields. (0 < length fields) × AreFields fields))
last_fields text (Ok None) last = tt
last_fields text (Ok (Some fields)) last = (last.1, last.2)
last_fields text (Err fault) last = tt

-- the next answer where a block was closed
pub closed_next : (start before after : Told) (old mid new : Paragraphs) (given : List Entry)
    (answer : Result (Option (List Field)) TextFault) → HasGiven start before old given →
    state_of old ≡ Open
    → (gathers : GathersClosed before after (held old) (reads_of old) mid) → held new ≡ held mid →
    reads_of new ≡ reads_of mid → state_of new ≡ Open → GivesFound gathers.prefix answer →
    GivesNext start after new given answer
closed_next start before after old mid new given answer has is gathers same reads open_ found =
    found_next start after new given gathers.prefix answer
    (λ entry. grown start before after old new given gathers.prefix entry has is
    (closed_finds before after old mid new gathers same reads open_)) found

-- nothing was given of a text of which nothing was read
pub given_none : (start : Told) (p : Paragraphs) → IsNew p → HasGiven start start p []
given_none start p is = record {
  text = [];
  prefix = [];
  gives = Gives-none start;
  cut = sym is.none_held;
  spelled = no_entries;
  apart = subst (λ (state : ParagraphsState). KeepsApart state start [] (held p)) (sym is.state)
      no_whole;
  counts = subst (λ (n : ℕ). CountsReads start start n) (sym is.no_read) (counts_none start.reads);
  fruitful = λ _. omega (arith, is.no_read);
  bounded = omega (arith, is.no_read);
  few = omega arith;
}
